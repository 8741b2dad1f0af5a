use Rattle.std.proofs.Common.{refl}
use Rattle.commands.proofs.RunLemmas.{unserved_batch, unwritten}
use Rattle.commands.proofs.laws.a_run_without_memory_writes_nothing.Goals as goal
use Rattle.commands.specs.Worlds.{told_by}

pub returns-clause-unwritten : goal.returns-clause-unwritten
returns-clause-unwritten g c = λ asked before after run.
    unwritten g.C.Disk.Disk (told_by g.S.Source g.K.Sink g.E.Sink g.C.Cabinet g.L.Doors g.P.Spawner) asked 6 before after run refl

pub returns-clause-unserved : goal.returns-clause-unserved
returns-clause-unserved g c = λ name workers before after run.
    unserved_batch g.C.Disk.Disk (told_by g.S.Source g.K.Sink g.E.Sink g.C.Cabinet g.L.Doors g.P.Spawner) name workers 6 before after run refl
