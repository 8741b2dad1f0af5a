-- The days that are compared for an edit: from one day on to another, both included.
use Rattle.std.specs.Prelude.{◌≡◌, ℕ, Bool, true, false, List, Option, Some, None, ℤ, pos, negsuc, ◌+ℤ◌, ◌-ℤ◌, ◌≤ℤ◌, ◌<ℤ◌}
use Rattle.fixed_units.specs.Quantities.{IsDay, last_day}
use Rattle.fixed_units.specs.Calendar.{days_from}

-- a count, none where the number is below 0
abbrev pub count_of : ℤ → ℕ
count_of (pos n) = n
count_of (negsuc n) = 0

-- the days from the first to the last, both included, in order: none where the last comes before the first
abbrev pub days_within : ℤ → ℤ → List ℤ
days_within first last = days_from first (count_of (last +ℤ pos 1 -ℤ first))

-- each day of an interval lies from the first to the last, and each day between these two is of the interval
pub record IsCover (inside : ℤ → Bool) (first last : ℤ) : Type 0 where
  pub begins : IsDay first
  pub ends : IsDay last
  pub all : (day : ℤ) → IsDay day → inside day ≡ true → (first ≤ℤ day) × (day ≤ℤ last)
  pub only : (day : ℤ) → IsDay day → first <ℤ day → day <ℤ last → inside day ≡ true

-- the days that cover an interval, or none where it has no day
abbrev pub AreCompared : (ℤ → Bool) → Option (ℤ × ℤ) → Type 0
AreCompared inside None = (day : ℤ) → IsDay day → inside day ≡ false
AreCompared inside (Some span) = IsCover inside span.0 span.1

-- the day after one of the calendar, or the last one where there is none
pub record IsAfter (day after : ℤ) : Type 0 where
  pub own : IsDay day
  pub other : IsDay after
  pub one : day <ℤ last_day → after ≡ day +ℤ pos 1
  pub end : day ≡ last_day → after ≡ last_day
