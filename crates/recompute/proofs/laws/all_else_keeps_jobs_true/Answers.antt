use Rattle.recompute.proofs.TrueLemmas.{true_taken, true_published, true_same}
use Rattle.recompute.proofs.laws.all_else_keeps_jobs_true.Goals as goal

pub returns-clause-taken : goal.returns-clause-taken
returns-clause-taken c old new site day stations job = true_taken old new stations job site day

pub returns-clause-published : goal.returns-clause-published
returns-clause-published c old new site day value stations job = true_published old new stations job site day value

pub returns-clause-same : goal.returns-clause-same
returns-clause-same c old new stations job = true_same old new stations job
