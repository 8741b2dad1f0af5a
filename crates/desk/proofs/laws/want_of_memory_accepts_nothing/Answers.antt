use Rattle.desk.proofs.AnswerLemmas.{memory_leaves}
use Rattle.desk.proofs.AtOnceLemmas.{forgone_adds_nothing}
use Rattle.desk.proofs.laws.want_of_memory_accepts_nothing.Goals as goal

pub returns-clause-alone : goal.returns-clause-alone
returns-clause-alone c = λ h next edit is. memory_leaves h edit next is

pub returns-clause-behind : goal.returns-clause-behind
returns-clause-behind c = λ fixed edit holdings is. forgone_adds_nothing fixed edit holdings is
