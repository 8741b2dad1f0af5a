-- Part by part.
use Rattle.readings.proofs.EqualityLemmas.{readings_decide, lists_decide}
use Rattle.readings.proofs.equality.equality_is_told.Goals as goal

pub returns-clause-readings : goal.returns-clause-readings
returns-clause-readings c = readings_decide

pub returns-clause-lists : goal.returns-clause-lists
returns-clause-lists c = lists_decide
