-- What a field measurement says of the rating in force at its instant.
use Rattle.std.specs.Prelude.{ℕ, List, Option, Some, None, option_map, option_and_then, if◌then◌else◌, ℤ, pos, ◌+ℤ◌, ◌-ℤ◌, ◌*ℤ◌}
use Rattle.std.specs.Ordering.{int_eq}
use Rattle.curves.specs.Entries.{series_value}
use Rattle.edits.specs.declared.measurements.Measurement.{Measurement}
use Rattle.fixed_units.specs.Quantities.{SiteNumber}
use Rattle.fixed_units.specs.Rounding.{round}
use Rattle.measurements.specs.declared.departures.Departure.{Departure}
use Rattle.office_inputs.specs.Stations.{station_of}
use Rattle.rating_tables.specs.Table.{Row, rated, stage_of}
use Rattle.rating_tables.specs.declared.table.Rated.{Rated}
use Rattle.rating_tables.specs.declared.table.Rated.TheVariants.{Value, Below, Above}
use Rattle.ratings.specs.Numbered.{rows_in_force}
use Rattle.station_inputs.specs.Stations.{StationState, measurement_of}

-- the discharge of the rating in force at a stage, if one is in force and has the stage
abbrev pub value_of : Rated → Option ℤ
value_of (Value discharge) = Some discharge
value_of Below = None
value_of Above = None

abbrev pub rated_discharge : Option (List Row) → ℤ → Option ℤ
rated_discharge None stage = None
rated_discharge (Some rows) stage = value_of (rated rows stage)

-- the percent departure of a measured discharge from the rated one, in hundredths of a percent; a rated 0 has none
abbrev pub percent_departure : ℤ → Option ℤ → Option ℤ
percent_departure measured None = None
percent_departure measured (Some rated) =
    if int_eq rated (pos 0) then None else Some (round (pos 10_000 *ℤ (measured -ℤ rated)) rated)

-- the indicated shift: the stage that the rating in force has for the measured discharge, less the gage height
abbrev pub indicated_shift : ℤ → ℤ → Option (List Row) → Option ℤ
indicated_shift measured gage None = None
indicated_shift measured gage (Some rows) = option_map (λ stage. stage -ℤ gage) (stage_of rows measured)

-- what a measurement says by the shift at its gage height and the rating in force at its instant
abbrev pub departure_by : Measurement → ℤ → Option (List Row) → Departure
departure_by m shift rows = record {
  grade = m.grade;
  rated = rated_discharge rows (m.gage +ℤ shift);
  hundredths = percent_departure m.discharge (rated_discharge rows (m.gage +ℤ shift));
  indicated = indicated_shift m.discharge m.gage rows;
}

-- what the measurement of a number of a station says
abbrev pub departure_in : StationState → Measurement → Departure
departure_in s m = departure_by m (series_value s.shifts m.at m.gage) (rows_in_force m.at s.ratings)

abbrev pub departure_of : ℕ → StationState → Option Departure
departure_of number s = option_map (departure_in s) (measurement_of number s)

-- what the measurement of a number at a site says
abbrev pub departure_at : List StationState → SiteNumber → ℕ → Option Departure
departure_at stations site number = option_and_then (departure_of number) (station_of stations site)
