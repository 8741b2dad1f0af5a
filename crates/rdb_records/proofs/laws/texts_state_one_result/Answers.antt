use Rattle.rdb_records.proofs.OneResultLemmas.{never_both, one_list, one_refusal}
use Rattle.rdb_records.proofs.laws.texts_state_one_result.Goals as goal

pub returns-clause-lists : goal.returns-clause-lists
returns-clause-lists c = one_list

pub returns-clause-faults : goal.returns-clause-faults
returns-clause-faults c = one_refusal

pub returns-clause-apart : goal.returns-clause-apart
returns-clause-apart c = never_both
