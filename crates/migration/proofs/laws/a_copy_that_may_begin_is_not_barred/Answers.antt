use Rattle.migration.proofs.AnswerLemmas.{not_barred}
use Rattle.migration.proofs.laws.a_copy_that_may_begin_is_not_barred.Goals as goal

pub returns : goal.returns
returns c records bytes fault begins answered = not_barred (Unit {0}) records bytes fault begins answered
