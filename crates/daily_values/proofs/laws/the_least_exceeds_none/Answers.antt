use Rattle.daily_values.proofs.ExtremeLemmas.{is_more, more_order}
use Rattle.daily_values.proofs.LawLemmas.{earliest, has_value, highest, there}
use Rattle.daily_values.proofs.laws.the_least_exceeds_none.Goals as goal

pub returns-clause-there : goal.returns-clause-there
returns-clause-there c = λ value. there value is_more more_order

pub returns-clause-valued : goal.returns-clause-valued
returns-clause-valued c = λ value. has_value value is_more more_order

pub returns-clause-least : goal.returns-clause-least
returns-clause-least c = λ value. highest value is_more more_order

pub returns-clause-earliest : goal.returns-clause-earliest
returns-clause-earliest c = λ value. earliest value is_more more_order
