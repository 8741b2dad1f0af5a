-- The counts of one station that have limits.
use Rattle.std.specs.List.{list_any}
use Rattle.std.specs.Prelude.{ℕ, Bool, ◌&&◌, nat_lt, length, Option, Some, None, if◌then◌else◌, ℤ, pos, ◌+ℤ◌}
use Rattle.fixed_units.specs.Calendar.{calendar}
use Rattle.readings.specs.Window.{of_day}
use Rattle.station_inputs.specs.Series.{all_series}
use Rattle.station_inputs.specs.Stations.{StationState, day_start, series_of}
use Rattle.station_inputs.specs.declared.counts.Counted.{Counted}
use Rattle.station_inputs.specs.declared.counts.Counted.TheVariants.{Ratings, Entries, Periods, Measurements, Editions}

-- a count that was raised passes its limit
abbrev pub passes : ℕ → ℕ → ℕ → Bool
passes limit before after = nat_lt before after && nat_lt limit after

-- the readings of a local day of a station, erroneous ones among them
abbrev pub day_count : StationState → ℤ → ℕ
day_count s day = length (of_day (day_start s day) (day_start s (day +ℤ pos 1)) s.readings)

-- some local day of the station has too many
abbrev pub passes_a_day : ℕ → StationState → StationState → Bool
passes_a_day limit before after = list_any (λ day. passes limit (day_count before day) (day_count after day)) calendar

-- how many ratings a station has at most, entries in one series, periods, measurements, and editions
abbrev pub most_ratings : ℕ
most_ratings = 200

abbrev pub most_entries : ℕ
most_entries = 10_000

abbrev pub most_periods : ℕ
most_periods = 1_000

abbrev pub most_measurements : ℕ
most_measurements = 10_000

abbrev pub most_editions : ℕ
most_editions = 100

-- some series of the station has too many entries
abbrev pub passes_a_series : StationState → StationState → Bool
passes_a_series before after = list_any (λ which. passes most_entries (length (series_of which before)) (length (series_of which after))) all_series

-- the first of these counts that a change of the station raises past its limit
abbrev pub passed_count : StationState → StationState → Option Counted
passed_count before after =
    if passes most_ratings (length before.ratings.tables) (length after.ratings.tables) then Some Ratings
    else (if passes_a_series before after then Some Entries
    else (if passes most_periods (length before.ratings.periods) (length after.ratings.periods) then Some Periods
    else (if passes most_measurements (length before.measurements) (length after.measurements) then Some Measurements
    else (if passes most_editions (length before.editions) (length after.editions) then Some Editions
    else None))))
