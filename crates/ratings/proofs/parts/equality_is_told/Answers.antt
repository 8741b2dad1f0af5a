-- Member by member.
use Rattle.ratings.proofs.PartEqualityLemmas.{parts_decide, lists_decide}
use Rattle.ratings.proofs.parts.equality_is_told.Goals as goal

pub returns-clause-parts : goal.returns-clause-parts
returns-clause-parts c = parts_decide

pub returns-clause-lists : goal.returns-clause-lists
returns-clause-lists c = lists_decide
