use Rattle.commands.proofs.JoinedLemmas.{next_finds, next_finds_more, next_finds_stopped}
use Rattle.commands.proofs.laws.the_next_run_finds_what_was_left.Goals as goal
use Rattle.commands.specs.Worlds.{told_by}

pub returns-clause-found : goal.returns-clause-found
returns-clause-found g c = λ name. next_finds g.C.Disk.Disk (told_by g.S.Source g.K.Sink g.E.Sink g.C.Cabinet g.L.Doors g.P.Spawner) name

pub returns-clause-edits : goal.returns-clause-edits
returns-clause-edits g c = λ name. next_finds_more g.C.Disk.Disk (told_by g.S.Source g.K.Sink g.E.Sink g.C.Cabinet g.L.Doors g.P.Spawner) name

pub returns-clause-stopped : goal.returns-clause-stopped
returns-clause-stopped g c = λ name. next_finds_stopped g.C.Disk.Disk (told_by g.S.Source g.K.Sink g.E.Sink g.C.Cabinet g.L.Doors g.P.Spawner) name
