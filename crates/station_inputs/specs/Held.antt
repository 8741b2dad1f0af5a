-- When inputs are those of a day of a station, part by part.
use Rattle.std.specs.Prelude.{◌≡◌, true, ℤ, pos, ◌+ℤ◌}
use Rattle.day_inputs.specs.Equality.{has_rules}
use Rattle.day_inputs.specs.declared.day_inputs.DayParts.{DayParts}
use Rattle.station_inputs.specs.Stations.{StationState, day_start, estimated_discharge, least_cover, station_window}

-- the gap tolerance and the rounding arrays are the station's
abbrev pub HasSettings : StationState → DayParts → Type 0
HasSettings s p = (s.gap ≡ p.gap) × (s.stage_array ≡ p.stage_array) × (s.discharge_array ≡ p.discharge_array)

-- the bounds are the day's
abbrev pub HasBounds : StationState → ℤ → DayParts → Type 0
HasBounds s day p = (p.from ≡ day_start s day) × (p.until ≡ day_start s (day +ℤ pos 1))

-- the estimate and the window are the day's, and the entries, the rating periods and the least cover those that count for it
abbrev pub HasContents : StationState → ℤ → DayParts → Type 0
HasContents s day p =
    (p.estimate ≡ estimated_discharge s day) × (p.window ≡ station_window s day) × (has_rules s.corrections s.shifts s.ratings (least_cover s day) p ≡ true)
