use Rattle.commands.proofs.AnsweredLemmas.{batch_answers, connection_ends, serve_answers, serve_answers_before}
use Rattle.commands.proofs.laws.where_no_fault_is_counted_each_request_is_answered.Goals as goal
use Rattle.commands.specs.Worlds.{told_by}

pub returns-clause-batch : goal.returns-clause-batch
returns-clause-batch g c = batch_answers g.C.Disk.Disk (told_by g.S.Source g.K.Sink g.E.Sink g.C.Cabinet g.L.Doors g.P.Spawner)

pub returns-clause-serve : goal.returns-clause-serve
returns-clause-serve g c = serve_answers g.C.Disk.Disk (told_by g.S.Source g.K.Sink g.E.Sink g.C.Cabinet g.L.Doors g.P.Spawner)

pub returns-clause-connection : goal.returns-clause-connection
returns-clause-connection g c = connection_ends

pub returns-clause-doors_failed : goal.returns-clause-doors_failed
returns-clause-doors_failed g c =
    serve_answers_before g.C.Disk.Disk (told_by g.S.Source g.K.Sink g.E.Sink g.C.Cabinet g.L.Doors g.P.Spawner)
