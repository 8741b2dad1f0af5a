use Rattle.commands.proofs.DrainLemmas.{batch_drained, serve_drained}
use Rattle.commands.proofs.laws.a_drained_worker_leaves_no_day_pending.Goals as goal

pub returns-clause-serve : goal.returns-clause-serve
returns-clause-serve g c = serve_drained g.D.Disk

pub returns-clause-batch : goal.returns-clause-batch
returns-clause-batch g c = batch_drained g.D.Disk
