use Rattle.commands.proofs.RunLemmas.{early}
use Rattle.commands.proofs.laws.a_run_without_a_journal_leaves_the_streams.Goals as goal
use Rattle.commands.specs.Worlds.{told_by}

pub returns : goal.returns
returns g c = early g.C.Disk.Disk (told_by g.S.Source g.K.Sink g.E.Sink g.C.Cabinet g.L.Doors g.P.Spawner)
