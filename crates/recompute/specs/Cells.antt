-- Which edit each day of each station awaits, whether its claim is out, and the value that was published last.
use Rattle.std.specs.Prelude.{◌≡◌, ℕ, ◌+◌, ◌-◌, ◌<◌, ◌≤◌, Bool, true, false, not, ◌&&◌, ◌||◌, if◌then◌else◌, List, length, find, slice_get, sum_by, take, drop, All, Option, Some, None, option_and_then, option_map, unwrap_or, IsSomeAnd, ℤ, int_lt}
use Rattle.std.specs.List.{AllWithin, HoldsAt, flat_map}
use Rattle.std.specs.Ordering.{int_eq}
use Rattle.fixed_units.specs.Quantities.{SiteNumber, site_place, same_site}
use Rattle.fixed_units.specs.Calendar.{days_of_calendar}
use Rattle.daily_values.specs.declared.day_values.DayValue.{DayValue}
use Rattle.daily_values.specs.declared.day_values.DayValue.TheVariants.{Empty}
use Rattle.rising.specs.Lists.{IsRising, at, before, after}
use Rattle.day_cells.specs.Days.{contains_day}
use Rattle.day_cells.specs.Spans.{with_days, days_of}
use Rattle.day_cells.specs.declared.spans.Span.{Span}
use Rattle.day_cells.specs.declared.waiting.Waiting.{Waiting}
use Rattle.day_cells.specs.KeptDays.{KeptDays, HasCell, awaited_on, is_out_on, value_on, waiting_of}
use Rattle.day_cells.specs.Sites.{station_rank}

-- the cells of a station, if it has any
abbrev pub station_of : List KeptDays → SiteNumber → Option KeptDays
station_of cells site = at station_rank (site_place site) cells

-- the edit that a day awaits
abbrev pub awaited_in : List KeptDays → SiteNumber → ℤ → Option ℕ
awaited_in cells site day = option_and_then (λ s. awaited_on s day) (station_of cells site)

-- whether the claim of a day is out
abbrev pub is_out_in : List KeptDays → SiteNumber → ℤ → Bool
is_out_in cells site day = unwrap_or (option_map (λ s. is_out_on s day) (station_of cells site)) false

-- the value that was published last; a day that no edit changed has never had one
abbrev pub value_in : List KeptDays → SiteNumber → ℤ → DayValue
value_in cells site day = unwrap_or (option_map (λ s. value_on s day) (station_of cells site)) Empty

-- the days of a station from the first to the last that was ever changed
abbrev pub span_in : List KeptDays → SiteNumber → Option Span
span_in cells site = option_and_then (λ s. s.span) (station_of cells site)

-- the pending days, by site, then day
abbrev pub waiting : List KeptDays → List Waiting
waiting cells = flat_map waiting_of cells

-- what is said of a pending day is what the cells tell of it
abbrev pub IsTold : List KeptDays → Waiting → Type 0
IsTold cells w = (awaited_in cells w.site w.day ≡ Some w.awaits) × (is_out_in cells w.site w.day ≡ w.out)

-- how many cells there are: of each station the days from the first to the last that was ever changed
abbrev pub cell_count : List KeptDays → ℕ
cell_count cells = sum_by (λ s. days_of s.span) cells

-- how many there are after a mark of these days
abbrev pub cell_count_after : List KeptDays → SiteNumber → List ℤ → ℕ
cell_count_after cells site days =
    cell_count cells + days_of (with_days (span_in cells site) days) - days_of (span_in cells site)

-- there is a cell for each of the days
abbrev pub HasRoom : List KeptDays → SiteNumber → List ℤ → Type 0
HasRoom cells site days = All (λ day. IsSomeAnd (station_of cells site) (λ s. HasCell s day)) days

-- a pending day comes after the last one, by site, then day
abbrev pub is_behind : SiteNumber → ℤ → Waiting → Bool
is_behind site day w = int_lt (site_place site) (site_place w.site) || (same_site site w.site && int_lt day w.day)

-- the cells say the same of every day; room is not spoken of
pub record SaysTheSame (old new : List KeptDays) : Type 0 where
  pub awaited : (site : SiteNumber) (day : ℤ) → awaited_in new site day ≡ awaited_in old site day
  pub out : (site : SiteNumber) (day : ℤ) → is_out_in new site day ≡ is_out_in old site day
  pub value : (site : SiteNumber) (day : ℤ) → value_in new site day ≡ value_in old site day
  pub span : (site : SiteNumber) → span_in new site ≡ span_in old site
  pub waiting : waiting new ≡ waiting old
  pub cells : cell_count new ≡ cell_count old

-- the days of the site await the edit and their claims are no longer out; every other day and every value is as before
pub record Marks (old new : List KeptDays) (site : SiteNumber) (days : List ℤ) (edit : ℕ) : Type 0 where
  pub awaited : (s : SiteNumber) (day : ℤ)
      → awaited_in new s day ≡ (if same_site site s && contains_day days day then Some edit else awaited_in old s day)
  pub out : (s : SiteNumber) (day : ℤ)
      → is_out_in new s day ≡ (if same_site site s && contains_day days day then false else is_out_in old s day)
  pub value : (s : SiteNumber) (day : ℤ) → value_in new s day ≡ value_in old s day
  pub span : (s : SiteNumber) → span_in new s ≡ (if same_site site s then with_days (span_in old s) days else span_in old s)
  pub cells : cell_count new ≡ cell_count_after old site days

-- it is this day of the site
abbrev pub is_day_of : SiteNumber → ℤ → SiteNumber → ℤ → Bool
is_day_of site day s d = same_site site s && int_eq day d

-- the claim of the day is out, and all else is as before
pub record TakesOut (old new : List KeptDays) (site : SiteNumber) (day : ℤ) : Type 0 where
  pub awaited : (s : SiteNumber) (d : ℤ) → awaited_in new s d ≡ awaited_in old s d
  pub out : (s : SiteNumber) (d : ℤ) → is_out_in new s d ≡ (if is_day_of site day s d then true else is_out_in old s d)
  pub value : (s : SiteNumber) (d : ℤ) → value_in new s d ≡ value_in old s d
  pub span : (s : SiteNumber) → span_in new s ≡ span_in old s
  pub pending : length (waiting new) ≡ length (waiting old)
  pub cells : cell_count new ≡ cell_count old

-- the day awaits nothing, its claim is no longer out and its value is this one; all else is as before
pub record Publishes (old new : List KeptDays) (site : SiteNumber) (day : ℤ) (published : DayValue) : Type 0 where
  pub awaited : (s : SiteNumber) (d : ℤ) → awaited_in new s d ≡ (if is_day_of site day s d then None else awaited_in old s d)
  pub out : (s : SiteNumber) (d : ℤ) → is_out_in new s d ≡ (if is_day_of site day s d then false else is_out_in old s d)
  pub value : (s : SiteNumber) (d : ℤ) → value_in new s d ≡ (if is_day_of site day s d then published else value_in old s d)
  pub span : (s : SiteNumber) → span_in new s ≡ span_in old s
  pub pending : length (waiting new) + 1 ≡ length (waiting old)
  pub cells : cell_count new ≡ cell_count old

-- the greatest number of stations that have cells
abbrev pub most_stations : ℕ
most_stations = 4_294_967_296

-- no station from a place to another has a pending day, or one whose claim is not out
abbrev pub NonePendingWithin : List KeptDays → ℕ → ℕ → Type 0
NonePendingWithin cells low high = AllWithin (λ s. slice_get (waiting_of s) 0 ≡ None) cells low high

abbrev pub NoneUnclaimedWithin : List KeptDays → ℕ → ℕ → Type 0
NoneUnclaimedWithin cells low high = AllWithin (λ s. find (λ w. not w.out) (waiting_of s) ≡ None) cells low high

-- the station of the site is in the place
pub record IsPlace (stations : List KeptDays) (site : SiteNumber) (place : ℕ) : Type 0 where
  pub within : place < length stations
  pub here : HoldsAt (λ s. station_rank s ≡ site_place site) stations place
  pub found : HoldsAt (λ s. station_of stations site ≡ Some s) stations place
  pub front : take place stations ≡ before station_rank (site_place site) stations
  pub back : drop (place + 1) stations ≡ after station_rank (site_place site) stations

-- no station is of the site, which belongs in the place
pub record IsGap (stations : List KeptDays) (site : SiteNumber) (place : ℕ) : Type 0 where
  pub within : place ≤ length stations
  pub none : station_of stations site ≡ None
  pub front : take place stations ≡ before station_rank (site_place site) stations
  pub back : drop place stations ≡ after station_rank (site_place site) stations

-- the stations rise by site; beside them stand the counts, the places before which nothing is pending or unclaimed, and a
-- value to lend
pub record KeepsCounts (stations : List KeptDays) (pending cells first unclaimed : ℕ) (empty : DayValue) : Type 0 where
  pub rising : IsRising station_rank stations
  pub few : length stations ≤ most_stations
  pub spans : All (λ s. days_of s.span ≤ days_of_calendar) stations
  pub pending_days : pending ≡ length (waiting stations)
  pub kept_cells : cells ≡ cell_count stations
  pub within : first ≤ length stations
  pub before : NonePendingWithin stations 0 first
  pub unclaimed_within : unclaimed ≤ length stations
  pub unclaimed_before : NoneUnclaimedWithin stations 0 unclaimed
  pub is_empty : empty ≡ Empty
