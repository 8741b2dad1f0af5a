-- What is made ready for an edit of a station, so that its acceptance takes no memory.
use Rattle.std.specs.Prelude.{◌≡◌, ℕ, ◌≤◌, ◌<◌, ⊤, List, length}
use Rattle.edits.specs.declared.content.What.{What}
use Rattle.edits.specs.declared.content.What.TheVariants.{SetStation, PutReadings, PutCorrection, PutShift, AddRating, PutPeriod, PutEstimate, PutMeasurement, SetEdition}
use Rattle.rating_tables.specs.Table.{Row}
use Rattle.station_inputs.specs.KeptStation.{KeptStation}
use Rattle.station_inputs.specs.Series.{room_in}
use Rattle.station_inputs.specs.declared.series.StationSeries.TheVariants.{Correction, Shift}
use Rattle.station_inputs.specs.declared.staged.Staged.{Staged}
use Rattle.station_inputs.specs.declared.staged.Staged.TheVariants.{Nothing, Named, Rated}

-- a staged name, and a staged table
abbrev pub IsStagedName : List ℕ → Staged → Type 0
IsStagedName name Nothing = ⊥
IsStagedName name (Named staged) = staged ≡ name
IsStagedName name (Rated staged) = ⊥

abbrev pub IsStagedTable : List Row → Staged → Type 0
IsStagedTable table Nothing = ⊥
IsStagedTable table (Named staged) = ⊥
IsStagedTable table (Rated staged) = staged ≡ table

-- all is ready for an edit of a station: what it carries beside numbers is staged, and there is room for what it puts, also where
-- that only takes the place of another
abbrev pub HasStationRoom : KeptStation → Staged → What → Type 0
HasStationRoom kept staged (SetStation name gap stage_array discharge_array) = IsStagedName name staged
HasStationRoom kept staged (PutReadings readings) = length readings ≤ kept.spare
HasStationRoom kept staged (PutCorrection set at curve prorate) = 0 < room_in (Correction set) kept.entry_room
HasStationRoom kept staged (PutShift at curve prorate) = 0 < room_in Shift kept.entry_room
HasStationRoom kept staged (AddRating rating table) = IsStagedTable table staged × (0 < kept.rating_room)
HasStationRoom kept staged (PutPeriod period) = 0 < kept.period_room
HasStationRoom kept staged (PutEstimate estimate) = 0 < kept.estimate_room
HasStationRoom kept staged (PutMeasurement measurement) = 0 < kept.measurement_room
HasStationRoom kept staged (SetEdition day least) = 0 < kept.edition_room
HasStationRoom kept staged _ = ⊤
