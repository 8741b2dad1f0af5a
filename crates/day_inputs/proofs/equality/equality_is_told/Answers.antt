-- Member by member.
use Rattle.day_inputs.proofs.EqualityLemmas.{Decides-same_inputs}
use Rattle.day_inputs.proofs.equality.equality_is_told.Goals as goal

pub returns : goal.returns
returns c = Decides-same_inputs
