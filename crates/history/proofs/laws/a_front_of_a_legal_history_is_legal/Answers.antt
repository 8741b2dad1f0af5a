use Rattle.history.proofs.FrontLemmas.{legal_at}
use Rattle.history.proofs.laws.a_front_of_a_legal_history_is_legal.Goals as goal

pub returns : goal.returns
returns c front behind legal opened = legal_at front behind legal opened
