-- The days of a station that an edit of it changes: those whose inputs differ before it and after it.
use Rattle.std.specs.Prelude.{Bool, ℤ}
use Rattle.day_inputs.specs.Equality.{same_inputs}
use Rattle.edits.specs.declared.content.What.{What}
use Rattle.station_inputs.specs.Stations.{StationState, station_after, station_day}

-- the inputs of the day are equal before the edit and after it
abbrev pub keeps_station_day : StationState → What → ℤ → Bool
keeps_station_day s what day = same_inputs (station_day s day) (station_day (station_after what s) day)
