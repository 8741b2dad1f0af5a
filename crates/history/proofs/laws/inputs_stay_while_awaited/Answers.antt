use Rattle.history.proofs.JobLemmas.{inputs_stay}
use Rattle.history.proofs.laws.inputs_stay_while_awaited.Goals as goal

pub returns : goal.returns
returns c = λ events since site day edit h k. inputs_stay site day events since edit h k
