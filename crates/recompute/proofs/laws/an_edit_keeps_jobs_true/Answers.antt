use Rattle.recompute.proofs.TrueLemmas.{true_after}
use Rattle.recompute.proofs.laws.an_edit_keeps_jobs_true.Goals as goal

pub returns : goal.returns
returns c old new stations edit number job = true_after old new stations job edit number
