-- What is written of the days of a site, by what has happened.
use Rattle.std.specs.Prelude.{ℕ, Bool, true, false, List, [], ◌∷◌, ◌++◌, codes, decimal, Option, Some, None, is_some, ℤ}
use Rattle.civil_days.specs.Texts.{day_text}
use Rattle.fixed_units.specs.Quantities.{SiteNumber}
use Rattle.history.specs.Accepted.{stations_at}
use Rattle.history.specs.Events.{Event}
use Rattle.office_inputs.specs.Stations.{station_of}
use Rattle.station_inputs.specs.Stations.{StationState}
use Rattle.table_writing.specs.Answers.{rows_at}
use Rattle.water_year.specs.DailyText.{daily_text}
use Rattle.water_year.specs.Rows.{first_of, last_of}
use Rattle.water_year.specs.Tables.{year_of}
use Rattle.water_year.specs.YearText.{year_text}
use Rattle.water_year.specs.declared.rows.DailyRow.{DailyRow}
use Rattle.water_year.specs.declared.rows.RowState.{RowState}
use Rattle.water_year.specs.declared.rows.RowState.TheVariants as states

-- of a site that is not kept there is no table
abbrev pub no_station : List ℕ
no_station = codes "NO STATION\n"

-- the daily values of a site from one day to another
abbrev pub daily_by : Bool → SiteNumber → List DailyRow → List ℕ
daily_by false site rows = no_station
daily_by true site rows = daily_text site rows

unfoldable pub daily_output : List Event → SiteNumber → ℤ → ℤ → List ℕ
daily_output events site from to = daily_by (is_some (station_of (stations_at events) site)) site (rows_at events site from to)

-- the edit that a row's day awaits
abbrev pub awaited_in : RowState → Option ℕ
awaited_in (states.Pending edit) = Some edit
awaited_in (states.Value discharge) = None
awaited_in states.Absent = None

-- the first day of rows that awaits an edit, and that edit
abbrev pub pending_first : Option ℕ → ℤ → Option (ℤ × ℕ) → Option (ℤ × ℕ)
pending_first None day others = others
pending_first (Some edit) day others = Some (day, edit)

abbrev pub first_pending : List DailyRow → Option (ℤ × ℕ)
first_pending [] = None
first_pending (row ∷ rows) = pending_first (awaited_in row.state) row.day (first_pending rows)

abbrev pub pending_line : ℤ × ℕ → List ℕ
pending_line pending = codes "PENDING " ++ day_text pending.0 ++ codes " " ++ decimal pending.1 ++ codes "\n"

-- the table of a water year by its rows and the rounding array of discharges, or the line of the first day that is pending
abbrev pub unless_pending : Option (ℤ × ℕ) → ℕ → SiteNumber → List ℕ → List DailyRow → List ℕ
unless_pending None year site array rows = year_text year site array (year_of year rows)
unless_pending (Some pending) year site array rows = pending_line pending

abbrev pub year_by : ℕ → SiteNumber → List ℕ → List DailyRow → List ℕ
year_by year site array rows = unless_pending (first_pending rows) year site array rows

abbrev pub water_by : Option StationState → ℕ → SiteNumber → List DailyRow → List ℕ
water_by None year site rows = no_station
water_by (Some station) year site rows = year_by year site station.discharge_array rows

unfoldable pub water_output : List Event → SiteNumber → ℕ → List ℕ
water_output events site year = water_by (station_of (stations_at events) site) year site (rows_at events site (first_of year) (last_of year))
