-- Rows whose values a table of a water year can count.
use Rattle.std.specs.Prelude.{◌≡◌, List, Some, ⊤}
use Rattle.daily_values.specs.Figures.{DayFigures}
use Rattle.daily_values.specs.declared.day_values.DayValue.{DayValue}
use Rattle.daily_values.specs.declared.day_values.DayValue.TheVariants as values
use Rattle.fixed_units.specs.Quantities.{SiteNumber}
use Rattle.fixed_units.specs.RoundingArray.{IsRoundingArray}
use Rattle.history.specs.Accepted.{stations_at}
use Rattle.history.specs.Events.{Event}
use Rattle.office_inputs.specs.Stations.{station_of}
use Rattle.station_inputs.specs.Stations.{StationState}
use Rattle.water_year.specs.Rows.{IsCounted}
use Rattle.water_year.specs.declared.rows.DailyRow.{DailyRow}
use Rattle.water_year.specs.declared.rows.RowState.{RowState}
use Rattle.water_year.specs.declared.rows.RowState.TheVariants as states

abbrev pub IsCountedIn : RowState → Type 0
IsCountedIn (states.Pending edit) = ⊤
IsCountedIn (states.Value discharge) = IsCounted discharge
IsCountedIn states.Absent = ⊤

-- the value of a row, where it has one, is one that is counted
abbrev pub IsCountedOrNone : DailyRow → Type 0
IsCountedOrNone row = IsCountedIn row.state

-- the figures of a day, where it has some
abbrev pub IfFigures : DayValue → (DayFigures → Type 0) → Type 0
IfFigures values.Empty P = ⊤
IfFigures (values.Day figures) P = P figures

-- the site's array for discharges is a rounding array
abbrev pub HasArray : List Event → SiteNumber → Type 0
HasArray events site = (station : StationState) × (station_of (stations_at events) site ≡ Some station) × IsRoundingArray station.discharge_array
