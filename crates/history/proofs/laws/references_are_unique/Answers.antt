use Rattle.history.proofs.RepeatLemmas.{same_place}
use Rattle.history.proofs.laws.references_are_unique.Goals as goal

pub returns : goal.returns
returns c h first second a b legal there here same = same_place h first second a b legal there here same
