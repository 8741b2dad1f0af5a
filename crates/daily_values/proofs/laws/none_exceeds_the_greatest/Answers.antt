use Rattle.daily_values.specs.DayValue.{is_less}
use Rattle.daily_values.proofs.ExtremeLemmas.{less_order}
use Rattle.daily_values.proofs.LawLemmas.{earliest, has_value, highest, there}
use Rattle.daily_values.proofs.laws.none_exceeds_the_greatest.Goals as goal

pub returns-clause-there : goal.returns-clause-there
returns-clause-there c = λ value. there value is_less less_order

pub returns-clause-valued : goal.returns-clause-valued
returns-clause-valued c = λ value. has_value value is_less less_order

pub returns-clause-most : goal.returns-clause-most
returns-clause-most c = λ value. highest value is_less less_order

pub returns-clause-earliest : goal.returns-clause-earliest
returns-clause-earliest c = λ value. earliest value is_less less_order
