use Rattle.fixed_units.proofs.RoundingLemmas.{round-IsRounded}
use Rattle.fixed_units.proofs.rounding.round_is_rounded.Goals as goal

pub returns : goal.returns
returns c = round-IsRounded
