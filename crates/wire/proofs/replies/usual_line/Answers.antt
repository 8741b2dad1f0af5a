use Rattle.std.proofs.Common.{refl}
use Rattle.std.specs.Fmt.{digits}
use Rattle.wire.proofs.replies.usual_line.Goals as goal

pub returns-in-200 : goal.returns-in-200
unfolding digits
returns-in-200 c = rw c.in-200.is refl

pub returns-in-409 : goal.returns-in-409
unfolding digits
returns-in-409 c = rw c.in-409.is refl

pub returns-in-423 : goal.returns-in-423
unfolding digits
returns-in-423 c = rw c.in-423.is refl
