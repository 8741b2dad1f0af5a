use Rattle.commands.proofs.JoinedLemmas.{batch_is_a_run}
use Rattle.commands.proofs.laws.a_batch_is_a_run.Goals as goal
use Rattle.commands.specs.Worlds.{told_by}

pub returns : goal.returns
returns g c = λ name. batch_is_a_run g.C.Disk.Disk (told_by g.S.Source g.K.Sink g.E.Sink g.C.Cabinet g.L.Doors g.P.Spawner) name
