use Rattle.told_edits.proofs.SettledLemmas.{all_again, known_again, settled}
use Rattle.told_edits.proofs.laws.each_edit_stands_once.Goals as goal

pub returns-clause-settled : goal.returns-clause-settled
returns-clause-settled c = settled

pub returns-clause-again : goal.returns-clause-again
returns-clause-again c = known_again

pub returns-clause-all_again : goal.returns-clause-all_again
returns-clause-all_again c = all_again
