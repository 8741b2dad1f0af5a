-- What is written of a site, by whether it is kept.
use Rattle.std.proofs.Common.{◌≡◌, sym, ap, ℕ, Bool, true, false, List, Option, Some, None, is_some, ℤ}
use Rattle.fixed_units.specs.Quantities.{SiteNumber}
use Rattle.history.specs.Accepted.{stations_at}
use Rattle.history.specs.Events.{Event}
use Rattle.office_inputs.specs.Stations.{station_of}
use Rattle.station_inputs.specs.Stations.{StationState}
use Rattle.table_writing.specs.Answers.{rows_at}
use Rattle.table_writing.specs.Texts.{daily_by, daily_output, no_station, water_by, water_output, year_by}
use Rattle.water_year.specs.DailyText.{daily_text}
use Rattle.water_year.specs.Rows.{first_of, last_of}

pub no_values : (events : List Event) (site : SiteNumber) (from to : ℤ) → is_some (station_of (stations_at events) site) ≡ false
    → no_station ≡ daily_output events site from to
unfolding daily_output
no_values events site from to none = ap (λ (kept : Bool). daily_by kept site (rows_at events site from to)) (sym none)

pub values_written : (events : List Event) (site : SiteNumber) (from to : ℤ) → is_some (station_of (stations_at events) site) ≡ true
    → daily_text site (rows_at events site from to) ≡ daily_output events site from to
unfolding daily_output
values_written events site from to kept = ap (λ (kept : Bool). daily_by kept site (rows_at events site from to)) (sym kept)

pub no_year : (events : List Event) (site : SiteNumber) (year : ℕ) → station_of (stations_at events) site ≡ None → no_station ≡ water_output events site year
unfolding water_output
no_year events site year none =
    ap (λ (station : Option StationState). water_by station year site (rows_at events site (first_of year) (last_of year))) (sym none)

pub year_written : (events : List Event) (site : SiteNumber) (year : ℕ) (station : StationState) → station_of (stations_at events) site ≡ Some station
    → year_by year site station.discharge_array (rows_at events site (first_of year) (last_of year)) ≡ water_output events site year
unfolding water_output
year_written events site year station kept =
    ap (λ (station : Option StationState). water_by station year site (rows_at events site (first_of year) (last_of year))) (sym kept)
