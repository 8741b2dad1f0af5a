use Rattle.water_year.proofs.LawLemmas.{months_long, values_or_missing}
use Rattle.water_year.proofs.YearLemmas.{rows_long}
use Rattle.water_year.proofs.laws.a_month_has_its_days.Goals as goal

pub returns-clause-months : goal.returns-clause-months
returns-clause-months c = months_long

pub returns-clause-year : goal.returns-clause-year
returns-clause-year c = rows_long

pub returns-clause-values : goal.returns-clause-values
returns-clause-values c = values_or_missing
