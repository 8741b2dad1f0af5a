-- The interval of days that an edit may change: those within 720 minutes of what it touches, whatever the station's gap tolerance is.
use Rattle.std.specs.List.{list_any}
use Rattle.std.specs.Prelude.{◌*◌, Bool, false, not, ◌&&◌, ◌||◌, List, filter, Option, Some, None, ℤ, pos, ◌+ℤ◌, ◌-ℤ◌, int_le}
use Rattle.std.specs.Ordering.{int_eq}
use Rattle.fixed_units.specs.Quantities.{SiteNumber, most_gap}
use Rattle.fixed_units.specs.Calendar.{calendar}
use Rattle.edits.specs.declared.content.What.{What}
use Rattle.edits.specs.declared.content.Edit.{Edit}
use Rattle.office_inputs.specs.Stations.{station_of, inputs_of_day}
use Rattle.station_inputs.specs.Stations.{StationState, day_start}
use Rattle.station_inputs.specs.Touched.{IsSpanOf, has_inputs, touched_at}
use Rattle.station_inputs.specs.declared.touched.Touched.{Touched}
use Rattle.station_inputs.specs.declared.touched.Touched.TheVariants.{Nothing, One, Between, Cells}

-- the day of a site has inputs
abbrev pub is_filled : List StationState → SiteNumber → ℤ → Bool
is_filled stations site day = has_inputs (inputs_of_day stations site day)

-- the first and the last day of a site that have inputs
abbrev pub IsUsedSpan : List StationState → SiteNumber → Option (ℤ × ℤ) → Type 0
IsUsedSpan stations site span = IsSpanOf (is_filled stations site) span

-- what an edit touches, of the station of its site as it was before
abbrev pub touched_by : Option StationState → What → Touched
touched_by None what = Nothing
touched_by (Some s) what = touched_at s what

abbrev pub touched_of : List StationState → Edit → Touched
touched_of stations edit = touched_by (station_of stations edit.site) edit.what

-- the greatest gap tolerance, in seconds
abbrev pub most_gap_seconds : ℤ
most_gap_seconds = pos (60 * most_gap)

-- the day from a to b, both ends included, meets the time from 720 minutes before an instant to 720 minutes after another
abbrev pub meets : ℤ → ℤ → ℤ → ℤ → Bool
meets first last a b = int_le (first -ℤ most_gap_seconds) b && int_le a (last +ℤ most_gap_seconds)

abbrev pub meets_day : ℤ → ℤ → Option StationState → ℤ → Bool
meets_day first last None day = false
meets_day first last (Some station) day = meets first last (day_start station day) (day_start station (day +ℤ pos 1))

-- the day lies between two days that have inputs, these included
abbrev pub is_between_filled : List StationState → SiteNumber → ℤ → Bool
is_between_filled stations site day =
    list_any (λ earlier. int_le earlier day && is_filled stations site earlier) calendar
    && list_any (λ later. int_le day later && is_filled stations site later) calendar

-- the day is in the interval of what is touched at the site
abbrev pub in_reach : List StationState → SiteNumber → Touched → ℤ → Bool
in_reach stations site Nothing day = false
in_reach stations site (One own) day = int_eq own day
in_reach stations site (Between first last cells_only) day =
    meets_day first last (station_of stations site) day && (not cells_only || is_between_filled stations site day)
in_reach stations site Cells day = is_between_filled stations site day

-- the days of an edit's interval
abbrev pub interval : List StationState → Edit → List ℤ
interval stations edit = filter (in_reach stations edit.site (touched_of stations edit)) calendar
