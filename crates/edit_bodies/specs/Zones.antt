-- Whether a text is the zone of a station, as a test: of what `civil_days` says it is.
use Rattle.std.specs.Prelude.{ℕ, zero, suc, Bool, true, ◌&&◌, List, is_some, ℤ, pos, ◌+ℤ◌, ◌-ℤ◌}
use Rattle.civil_days.specs.Starts.{zone_rule, day_start_of}
use Rattle.fixed_units.specs.Calendar.{days_of_calendar, longest_day, shortest_day}
use Rattle.fixed_units.specs.Quantities.{first_day, is_within}

-- each number below this one passes
unfoldable pub all_below : (ℕ → Bool) → ℕ → Bool
all_below test zero = true
all_below test (suc n) = test n && all_below test n

-- the day lasts 20 to 28 hours in the zone that the text is
abbrev pub lasts_well : List ℕ → ℤ → Bool
lasts_well text day = is_within (pos shortest_day) (pos longest_day) (day_start_of text (day +ℤ pos 1) -ℤ day_start_of text day)

-- the text is a rule, by which each day of the calendar lasts so long
unfoldable pub is_zone : List ℕ → Bool
is_zone text = is_some (zone_rule text) && all_below (λ n. lasts_well text (first_day +ℤ pos n)) days_of_calendar
