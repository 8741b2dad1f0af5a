use Rattle.commands.proofs.AgainLemmas.{copied_again, migration_began}
use Rattle.commands.proofs.laws.a_stopped_migration_can_be_run_again.Goals as goal
use Rattle.commands.specs.Worlds.{shelf, told_by}

pub returns-clause-begins : goal.returns-clause-begins
returns-clause-begins g c = migration_began g.C.Disk.Disk (told_by g.S.Source g.K.Sink g.E.Sink g.C.Cabinet g.L.Doors g.P.Spawner)

pub returns-clause-stopped : goal.returns-clause-stopped
returns-clause-stopped g c = λ from to journal before after again.
    copied_again g.C.Disk.Disk from to journal (shelf g.C.Cabinet before.cabinet) (shelf g.C.Cabinet after.cabinet) (shelf g.C.Cabinet again.cabinet)
