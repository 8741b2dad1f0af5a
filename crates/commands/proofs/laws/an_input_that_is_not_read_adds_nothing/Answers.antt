use Rattle.commands.proofs.RunLemmas.{unwritten_import, unwritten_notes, unwritten_stations}
use Rattle.commands.proofs.laws.an_input_that_is_not_read_adds_nothing.Goals as goal
use Rattle.commands.specs.Worlds.{told_by}

pub returns-clause-stations : goal.returns-clause-stations
returns-clause-stations g c = unwritten_stations g.C.Disk.Disk (told_by g.S.Source g.K.Sink g.E.Sink g.C.Cabinet g.L.Doors g.P.Spawner)

pub returns-clause-import : goal.returns-clause-import
returns-clause-import g c = unwritten_import g.C.Disk.Disk (told_by g.S.Source g.K.Sink g.E.Sink g.C.Cabinet g.L.Doors g.P.Spawner)

pub returns-clause-notes : goal.returns-clause-notes
returns-clause-notes g c = unwritten_notes g.C.Disk.Disk (told_by g.S.Source g.K.Sink g.E.Sink g.C.Cabinet g.L.Doors g.P.Spawner)
