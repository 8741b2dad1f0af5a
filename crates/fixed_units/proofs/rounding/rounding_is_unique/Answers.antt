use Rattle.fixed_units.proofs.RoundingLemmas.{rounded-unique}
use Rattle.fixed_units.proofs.rounding.rounding_is_unique.Goals as goal

pub returns : goal.returns
returns c = rounded-unique
