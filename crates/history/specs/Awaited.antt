-- Which edit each day awaits, and what is answered for it.
use Rattle.std.specs.Prelude.{ℕ, ◌+◌, Bool, ◌&&◌, if◌then◌else◌, List, [], ◌∷◌, length, reverse, map, filter, Option, Some, None, is_some, ℤ}
use Rattle.std.specs.List.{flat_map}
use Rattle.std.specs.Ordering.{int_eq}
use Rattle.daily_values.specs.DayValue.{day_value}
use Rattle.daily_values.specs.declared.day_values.DayValue.{DayValue}
use Rattle.day_inputs.specs.declared.day_inputs.DayInputs.{DayInputs}
use Rattle.fixed_units.specs.Calendar.{calendar}
use Rattle.fixed_units.specs.Quantities.{SiteNumber, same_site}
use Rattle.history.specs.Accepted.{accepted, stations_at, changes}
use Rattle.history.specs.Events.{Event, Accepted, Published, Faulted}
use Rattle.office_inputs.specs.Stations.{station_of, inputs_of_day}
use Rattle.station_inputs.specs.Stations.{StationState}

-- it is this day of this site
abbrev pub is_day_of : SiteNumber → ℤ → SiteNumber → ℤ → Bool
is_day_of site day s d = same_site site s && int_eq day d

-- Read from the newest event back: a day awaits the last edit that changed it, unless a publication of the day comes first.
unfoldable pub awaited_back : List Event → SiteNumber → ℤ → Option ℕ
awaited_back [] site day = None
awaited_back (Accepted piece ∷ older) site day =
    if changes (stations_at (reverse older)) piece.edit site day then Some (length (accepted older) + 1)
    else awaited_back older site day
awaited_back (Published s d ∷ older) site day =
    if is_day_of s d site day then None else awaited_back older site day
awaited_back (Faulted doubt ∷ older) site day = awaited_back older site day

-- the number of the edit that a day awaits, if it awaits one
abbrev pub awaited : List Event → SiteNumber → ℤ → Option ℕ
awaited events site day = awaited_back (reverse events) site day

abbrev pub is_pending : List Event → SiteNumber → ℤ → Bool
is_pending events site day = is_some (awaited events site day)

-- a day of a site
pub record SiteDay : Type 0 where
  pub site : SiteNumber
  pub day : ℤ

-- the pending days of a station, in order
abbrev pub pending_of : List Event → StationState → List SiteDay
pending_of events s = map (λ day. record { site = s.site; day = day }) (filter (is_pending events s.site) calendar)

-- the pending days of all stations, by site, then day
abbrev pub pending_days : List Event → List SiteDay
pending_days events = flat_map (pending_of events) (stations_at events)

-- the inputs of a day that are in force, and its value computed from scratch: from these, from all edits so far
abbrev pub inputs_at : List Event → SiteNumber → ℤ → DayInputs
inputs_at events site day = inputs_of_day (stations_at events) site day

abbrev pub value_at : List Event → SiteNumber → ℤ → DayValue
value_at events site day = day_value (inputs_at events site day)

-- what is answered for a day
pub data DayAnswer : Type 0 where
  NoStation : DayAnswer
  Pending : ℕ → DayAnswer
  Computed : DayValue → DayAnswer

-- the edit that the day awaits, or else its value
abbrev pub answer_by : Option ℕ → DayValue → DayAnswer
answer_by None value = Computed value
answer_by (Some edit) value = Pending edit

abbrev pub answer_at : List Event → SiteNumber → ℤ → DayAnswer
answer_at events site day =
    if is_some (station_of (stations_at events) site) then answer_by (awaited events site day) (value_at events site day)
    else NoStation
