use Rattle.desk.proofs.KeptEditLemmas.{edit_stays_behind}
use Rattle.desk.proofs.TruthLemmas.{edit_stays}
use Rattle.desk.proofs.laws.acknowledged_edits_stay.Goals as goal

pub returns-clause-alone : goal.returns-clause-alone
returns-clause-alone c = λ old new later steps further before behind message told more reply edit same legal is goes asked.
    edit_stays old new steps before behind message told more reply same is edit further later legal goes asked

pub returns-clause-behind : goal.returns-clause-behind
returns-clause-behind c = edit_stays_behind
