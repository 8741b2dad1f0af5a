use Rattle.jiff_days.proofs.OrderLemmas.{earlier_in_fold, later_in_gap}
use Rattle.jiff_days.proofs.laws.the_offset_before_a_change_is_taken.Goals as goal

pub returns-clause-twice : goal.returns-clause-twice
returns-clause-twice c = earlier_in_fold

pub returns-clause-skipped : goal.returns-clause-skipped
returns-clause-skipped c = later_in_gap
