use Rattle.migration.proofs.AnswerLemmas.{left_is_front}
use Rattle.migration.proofs.laws.what_a_copy_leaves_is_a_front.Goals as goal

pub returns : goal.returns
returns c records image left taken = left_is_front records image left taken
