use Rattle.commands.proofs.FailingLemmas.{batch_fails, serve_fails}
use Rattle.commands.proofs.laws.each_503_of_a_run_has_its_fault.Goals as goal

pub returns-clause-serve : goal.returns-clause-serve
returns-clause-serve g c = serve_fails g.D.Disk

pub returns-clause-batch : goal.returns-clause-batch
returns-clause-batch g c = batch_fails g.D.Disk
