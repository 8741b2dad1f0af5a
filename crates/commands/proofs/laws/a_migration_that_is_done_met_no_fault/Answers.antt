use Rattle.commands.proofs.RunLemmas.{migrate_unfailed}
use Rattle.commands.proofs.laws.a_migration_that_is_done_met_no_fault.Goals as goal
use Rattle.commands.specs.Worlds.{told_by}

pub returns : goal.returns
returns g c = migrate_unfailed g.C.Disk.Disk (told_by g.S.Source g.K.Sink g.E.Sink g.C.Cabinet g.L.Doors g.P.Spawner)
