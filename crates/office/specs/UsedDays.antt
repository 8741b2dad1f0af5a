-- The days that have inputs, and the cells of a station.
use Rattle.std.specs.Prelude.{Option, IsSomeAnd, ℤ, ◌≤ℤ◌}
use Rattle.day_cells.specs.declared.spans.Span.{Span}

-- the day lies in the span
abbrev pub LiesIn : Option Span → ℤ → Type 0
LiesIn span day = IsSomeAnd span (λ s. (s.first ≤ℤ day) × (day ≤ℤ s.last))
