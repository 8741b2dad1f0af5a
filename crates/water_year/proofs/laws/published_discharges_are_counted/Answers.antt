use Rattle.water_year.proofs.CountedLemmas.{published_counted}
use Rattle.water_year.proofs.laws.published_discharges_are_counted.Goals as goal

pub returns : goal.returns
returns c = published_counted
