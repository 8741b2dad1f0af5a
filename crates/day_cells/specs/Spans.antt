-- The days from a first one to a last one.
use Rattle.std.specs.Prelude.{ℕ, ◌+◌, List, fold, Option, Some, None, ℤ, ◌-ℤ◌, ◌≤ℤ◌, unsigned_abs}
use Rattle.std.specs.Int.{int_min, int_max}
use Rattle.fixed_units.specs.Quantities.{IsDay}
use Rattle.day_cells.specs.declared.spans.Span.{Span}

-- the first day is no later than the last
pub record IsSpan (span : Span) : Type 0 where
  pub ordered : span.first ≤ℤ span.last
  pub first : IsDay span.first
  pub last : IsDay span.last

-- the span with a day in it too
abbrev pub with_day : Option Span → ℤ → Option Span
with_day None day = Some (record { first = day; last = day })
with_day (Some span) day = Some (record { first = int_min span.first day; last = int_max span.last day })

-- the span with these days in it too
abbrev pub with_days : Option Span → List ℤ → Option Span
with_days span days = fold with_day span days

-- how many days it has
abbrev pub days_of : Option Span → ℕ
days_of None = 0
days_of (Some span) = unsigned_abs (span.last -ℤ span.first) + 1
