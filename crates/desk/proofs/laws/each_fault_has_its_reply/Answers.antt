use Rattle.desk.proofs.FaultLemmas.{all_opened, all_told}
use Rattle.desk.proofs.laws.each_fault_has_its_reply.Goals as goal

pub returns-clause-joined : goal.returns-clause-joined
returns-clause-joined c = λ h after messages replies told. all_told h messages replies after told

pub returns-clause-all : goal.returns-clause-all
returns-clause-all c = λ limits format pieces after messages replies told. all_opened limits format pieces messages replies after told
