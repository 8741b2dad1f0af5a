-- The days of the calendar, in order, and how long a day may be.
use Rattle.std.specs.Prelude.{ℕ, zero, suc, List, [], ◌∷◌, ℤ, pos, ◌+ℤ◌}
use Rattle.fixed_units.specs.Quantities.{first_day}

-- so many days in order, from the given one on
unfoldable pub days_from : ℤ → ℕ → List ℤ
days_from day zero = []
days_from day (suc n) = day ∷ days_from (day +ℤ pos 1) n

-- a day has 20 to 28 hours, in seconds
abbrev pub shortest_day : ℕ
shortest_day = 72_000

abbrev pub longest_day : ℕ
longest_day = 100_800

-- how many days the calendar has
abbrev pub days_of_calendar : ℕ
days_of_calendar = 73_049

-- every day of the calendar, from 1900-01-01 to 2099-12-31
unfoldable pub calendar : List ℤ
calendar = days_from first_day days_of_calendar
