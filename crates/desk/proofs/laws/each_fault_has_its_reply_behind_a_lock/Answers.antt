use Rattle.desk.proofs.SharedFaultLemmas.{few_replies, replies_hold}
use Rattle.desk.proofs.laws.each_fault_has_its_reply_behind_a_lock.Goals as goal

pub returns-clause-added : goal.returns-clause-added
returns-clause-added c = λ fixed holdings messages replies is. (replies_hold fixed holdings messages replies is).1

pub returns-clause-few : goal.returns-clause-few
returns-clause-few c = λ fixed start list holdings messages replies follow is. few_replies fixed start holdings list messages replies follow is
