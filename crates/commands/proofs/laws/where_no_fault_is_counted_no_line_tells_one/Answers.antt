use Rattle.commands.proofs.AnsweredLemmas.{notes_told, readings_told, stations_told}
use Rattle.commands.proofs.laws.where_no_fault_is_counted_no_line_tells_one.Goals as goal
use Rattle.commands.specs.Worlds.{told_by}

pub returns-clause-stations : goal.returns-clause-stations
returns-clause-stations g c = stations_told g.C.Disk.Disk (told_by g.S.Source g.K.Sink g.E.Sink g.C.Cabinet g.L.Doors g.P.Spawner)

pub returns-clause-import : goal.returns-clause-import
returns-clause-import g c = readings_told g.C.Disk.Disk (told_by g.S.Source g.K.Sink g.E.Sink g.C.Cabinet g.L.Doors g.P.Spawner)

pub returns-clause-notes : goal.returns-clause-notes
returns-clause-notes g c = notes_told g.C.Disk.Disk (told_by g.S.Source g.K.Sink g.E.Sink g.C.Cabinet g.L.Doors g.P.Spawner)
