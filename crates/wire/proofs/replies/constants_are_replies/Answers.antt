use Rattle.std.proofs.Common.{refl}
use Rattle.std.specs.Fmt.{digits}
use Rattle.wire.proofs.replies.constants_are_replies.Goals as goal

pub returns-clause-no_memory : goal.returns-clause-no_memory
unfolding digits
returns-clause-no_memory c = refl

pub returns-clause-malformed : goal.returns-clause-malformed
unfolding digits
returns-clause-malformed c = refl
