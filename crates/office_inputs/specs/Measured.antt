-- What is asked of a site beside its days: its measurements, and the shift and the table in force at an instant.
use Rattle.std.specs.Prelude.{ℕ, List, Option, Some, None, option_and_then, ℤ, pos}
use Rattle.curves.specs.Entries.{series_value}
use Rattle.edits.specs.declared.measurements.Measurement.{Measurement}
use Rattle.fixed_units.specs.Quantities.{SiteNumber}
use Rattle.office_inputs.specs.Stations.{station_of}
use Rattle.rating_tables.specs.Table.{Row}
use Rattle.ratings.specs.Numbered.{rows_in_force}
use Rattle.station_inputs.specs.Stations.{StationState, measurement_of}

-- the measurement of a number
abbrev pub measurement_at : List StationState → SiteNumber → ℕ → Option Measurement
measurement_at stations site number = option_and_then (measurement_of number) (station_of stations site)

-- the shift at an instant and a stage, 0 where the site is not kept
abbrev pub shift_of : Option StationState → ℤ → ℤ → ℤ
shift_of None at stage = pos 0
shift_of (Some s) at stage = series_value s.shifts at stage

abbrev pub shift_at : List StationState → SiteNumber → ℤ → ℤ → ℤ
shift_at stations site at stage = shift_of (station_of stations site) at stage

-- the rows of the rating in force at an instant
abbrev pub table_at : List StationState → SiteNumber → ℤ → Option (List Row)
table_at stations site at = option_and_then (λ s. rows_in_force at s.ratings) (station_of stations site)
