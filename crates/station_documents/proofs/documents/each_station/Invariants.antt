use Rattle.std.proofs.Common.{take}
use Rattle.station_documents.proofs.documents.each_station.Given as goal
use Rattle.station_documents.specs.Documents.{StatesEach}
use Rattle.toml.specs.View.{items_view}

-- the stations so far are stated by the edits so far
abbrev pub invariant-loop-station : goal.invariant-loop-station
invariant-loop-station l = StatesEach l.by (items_view (take l.station-index l.stations)) l.edits.items
