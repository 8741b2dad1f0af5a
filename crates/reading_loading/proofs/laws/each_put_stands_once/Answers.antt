use Rattle.reading_loading.proofs.AgainLemmas.{each_again, each_settled}
use Rattle.reading_loading.proofs.laws.each_put_stands_once.Goals as goal

pub returns-clause-settled : goal.returns-clause-settled
returns-clause-settled c = each_settled

pub returns-clause-again : goal.returns-clause-again
returns-clause-again c = each_again
