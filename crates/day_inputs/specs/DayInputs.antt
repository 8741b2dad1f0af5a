-- The inputs of a day: all that its value depends on.
use Rattle.std.specs.Prelude.{ℕ, ◌*◌, ◌≤◌, List, [], ◌∷◌, All, IfSome, Option, Some, None, ℤ, pos, ◌-ℤ◌, ◌≤ℤ◌, ⊤}
use Rattle.fixed_units.specs.Calendar.{shortest_day, longest_day}
use Rattle.fixed_units.specs.Quantities.{IsDischarge, IsStage, most_gap}
use Rattle.fixed_units.specs.declared.readings.Reading.{Reading}
use Rattle.readings.specs.Readings.{IsRising}
use Rattle.readings.specs.Window.{window}
use Rattle.editions.specs.Covers.{IsLeastCover}
use Rattle.curves.specs.declared.entries.Entry.{Entry}
use Rattle.curves.specs.Entries.{IsSeries}
use Rattle.curves.specs.Bearing.{bearing}
use Rattle.curves.specs.Corrections.{Corrections}
use Rattle.ratings.specs.Numbered.{StationRatings}
use Rattle.ratings.specs.Parts as rating_parts
use Rattle.day_inputs.specs.declared.day_inputs.DayInputs.{DayInputs}
use Rattle.day_inputs.specs.declared.day_inputs.DayInputs.TheVariants.{Empty, Day}
use Rattle.day_inputs.specs.declared.day_inputs.DayParts.{DayParts}

-- the instant of the last of some readings, of which the first is given
abbrev pub last_at : Reading → List Reading → ℤ
last_at r [] = r.at
last_at r (s ∷ rs) = last_at s rs

-- the instants of the first and the last reading of a window
abbrev pub window_ends : List Reading → Option (ℤ × ℤ)
window_ends [] = None
window_ends (r ∷ rs) = Some (r.at, last_at r rs)

abbrev pub ends_of : Option Reading → Option Reading → Option (ℤ × ℤ)
ends_of None last = None
ends_of (Some first) None = None
ends_of (Some first) (Some last) = Some (first.at, last.at)

-- the entries of a series that bear on the time between two instants, and the parts of the rating periods that meet it: none without
-- that time
abbrev pub bearing_on : Option (ℤ × ℤ) → List Entry → List Entry
bearing_on None entries = []
bearing_on (Some span) entries = bearing span.0 span.1 entries

abbrev pub parts_on : Option (ℤ × ℤ) → StationRatings → List rating_parts.Part
parts_on None ratings = []
parts_on (Some span) ratings = rating_parts.parts span.0 span.1 ratings.tables ratings.periods

-- the least cover that counts for that time, in minutes: none without it
abbrev pub least_on : Option (ℤ × ℤ) → Option ℕ → Option ℕ
least_on None least = None
least_on (Some span) least = least

-- the parts of the inputs of a day [from, until) with this window and this estimate, if there is one: with the entries of these
-- correction sets and shifts that bear on a time, the parts of the rating periods that meet it, and the least cover, if one is in force
abbrev pub parts_with : ℕ → List ℕ → List ℕ → ℤ → ℤ → Corrections → List Entry → StationRatings → Option ℤ → Option ℕ → List Reading → Option (ℤ × ℤ) → DayParts
parts_with gap stage_array discharge_array from until corrections shifts ratings estimate least readings span = record {
  gap = gap;
  stage_array = stage_array;
  discharge_array = discharge_array;
  from = from;
  until = until;
  window = readings;
  first = bearing_on span corrections.first;
  second = bearing_on span corrections.second;
  third = bearing_on span corrections.third;
  shifts = bearing_on span shifts;
  periods = parts_on span ratings;
  estimate = estimate;
  least = least_on span least;
}

-- the inputs of a day [from, until) with this window, this estimate, if there is one, and this least cover, if one is in force: none
-- where it has neither window nor estimate. The time that counts is that from the window's first reading to its last one, and without
-- a window there is none
abbrev pub with_window : ℕ → List ℕ → List ℕ → ℤ → ℤ → Corrections → List Entry → StationRatings → List Reading → Option ℤ → Option ℕ → DayInputs
with_window gap stage_array discharge_array from until corrections shifts ratings [] None least = Empty
with_window gap stage_array discharge_array from until corrections shifts ratings [] (Some discharge) least =
    Day (parts_with gap stage_array discharge_array from until corrections shifts ratings (Some discharge) least [] None)
with_window gap stage_array discharge_array from until corrections shifts ratings (r ∷ rs) estimate least =
    Day (parts_with gap stage_array discharge_array from until corrections shifts ratings estimate least (r ∷ rs) (Some (r.at, last_at r rs)))

-- the inputs of the day [from, until) of a station with this gap tolerance, in minutes, these rounding arrays, correction sets,
-- shifts, ratings and readings, this estimate of the day and this least cover in force on it
abbrev pub day_inputs : ℕ → List ℕ → List ℕ → ℤ → ℤ → Corrections → List Entry → StationRatings → List Reading → Option ℤ → Option ℕ → DayInputs
day_inputs gap stage_array discharge_array from until corrections shifts ratings readings estimate least =
    with_window gap stage_array discharge_array from until corrections shifts ratings (window from until (pos (60 * gap)) readings) estimate least

-- what the inputs of a day keep to: a gap tolerance of 1 to 720 minutes, a day of 20 to 28 hours, rising readings of stages,
-- series of entries, parts of rating periods, an estimate that is a discharge, and a least cover of 1 to 1,440 minutes
pub record AreParts (parts : DayParts) : Type 0 where
  pub gap_low : 1 ≤ parts.gap
  pub gap_high : parts.gap ≤ most_gap
  pub shortest : pos shortest_day ≤ℤ (parts.until -ℤ parts.from)
  pub longest : (parts.until -ℤ parts.from) ≤ℤ pos longest_day
  pub rising : IsRising parts.window
  pub stages : All (λ r. IsStage r.raw) parts.window
  pub first : IsSeries parts.first
  pub second : IsSeries parts.second
  pub third : IsSeries parts.third
  pub shifts : IsSeries parts.shifts
  pub periods : rating_parts.AreParts parts.periods
  pub estimate : IfSome parts.estimate IsDischarge
  pub least : IfSome parts.least IsLeastCover

abbrev pub AreInputs : DayInputs → Type 0
AreInputs Empty = ⊤
AreInputs (Day parts) = AreParts parts
