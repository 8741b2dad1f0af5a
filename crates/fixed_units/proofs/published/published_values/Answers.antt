use Rattle.fixed_units.proofs.NearestLemmas.{published-IsPublished, published-unique}
use Rattle.fixed_units.proofs.published.published_values.Goals as goal

pub returns : goal.returns
returns c = record { value = published-IsPublished; unique = published-unique }
