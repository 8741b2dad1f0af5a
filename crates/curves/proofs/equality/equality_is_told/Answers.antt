-- Part by part.
use Rattle.curves.proofs.EqualityLemmas.{entries_decide, lists_decide}
use Rattle.curves.proofs.equality.equality_is_told.Goals as goal

pub returns-clause-entries : goal.returns-clause-entries
returns-clause-entries c = entries_decide

pub returns-clause-lists : goal.returns-clause-lists
returns-clause-lists c = lists_decide
