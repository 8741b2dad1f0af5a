-- By the kind of the edit.
use Rattle.std.proofs.Common.{rules}
use Rattle.approval.proofs.statuses.objection_among.Goals as goal

pub returns-in-Review : goal.returns-in-Review
returns-in-Review c = rw c.in-Review.is (search rules)

pub returns-in-Approve : goal.returns-in-Approve
returns-in-Approve c = rw (c.in-Decide.is, c.in-Approve.is) (search rules)

pub returns-in-Rescind : goal.returns-in-Rescind
returns-in-Rescind c = rw (c.in-Decide.is, c.in-Rescind.is) (search rules)
