use Rattle.serving.proofs.SendLemmas.{register_sent}
use Rattle.serving.proofs.sending.a_register_may_be_sent.Goals as goal

pub returns : goal.returns
returns c = register_sent (λ x vs. c.may_be_sent.ensures.owned x vs)
