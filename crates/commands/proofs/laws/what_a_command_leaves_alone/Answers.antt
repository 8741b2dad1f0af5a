use Rattle.commands.proofs.RunLemmas.{daily_alone, init_alone, migrate_alone, trial_alone, water_alone}
use Rattle.commands.proofs.laws.what_a_command_leaves_alone.Goals as goal
use Rattle.commands.specs.Worlds.{told_by}

pub returns-clause-init : goal.returns-clause-init
returns-clause-init g c = init_alone g.C.Disk.Disk (told_by g.S.Source g.K.Sink g.E.Sink g.C.Cabinet g.L.Doors g.P.Spawner)

pub returns-clause-migrate : goal.returns-clause-migrate
returns-clause-migrate g c = migrate_alone g.C.Disk.Disk (told_by g.S.Source g.K.Sink g.E.Sink g.C.Cabinet g.L.Doors g.P.Spawner)

pub returns-clause-trial : goal.returns-clause-trial
returns-clause-trial g c = trial_alone g.C.Disk.Disk (told_by g.S.Source g.K.Sink g.E.Sink g.C.Cabinet g.L.Doors g.P.Spawner)

pub returns-clause-daily : goal.returns-clause-daily
returns-clause-daily g c = daily_alone g.C.Disk.Disk (told_by g.S.Source g.K.Sink g.E.Sink g.C.Cabinet g.L.Doors g.P.Spawner)

pub returns-clause-water : goal.returns-clause-water
returns-clause-water g c = water_alone g.C.Disk.Disk (told_by g.S.Source g.K.Sink g.E.Sink g.C.Cabinet g.L.Doors g.P.Spawner)
