use Rattle.water_year.proofs.LawLemmas.{year_total}
use Rattle.water_year.proofs.laws.the_year_is_the_sum_of_its_months.Goals as goal

pub returns : goal.returns
returns c = year_total
