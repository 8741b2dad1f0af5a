-- Axes: where a number stands along a line of the picture.
use Rattle.std.specs.Prelude.{◌⊎◌, ℕ, ◌≤◌, ℤ, pos, ◌-ℤ◌, ◌*ℤ◌, unsigned_abs, Option, None, Some, if◌then◌else◌}
use Rattle.fixed_units.specs.Lines.{line_at}
use Rattle.fixed_units.specs.Quantities.{is_within}
use Rattle.fixed_units.specs.Rounding.{IsRounded}
use Rattle.drawings.specs.declared.axes.Axis.{Axis}

-- the place of a number, in whole units of the picture: on the straight line from the one end to the other, rounded once. A number that
-- is not on the axis has none
abbrev pub place : Axis → ℤ → Option ℕ
place axis n =
    if is_within axis.least axis.greatest n
    then Some (unsigned_abs (line_at (axis.least, pos axis.start) (axis.greatest, pos axis.end) n)) else None

-- between two ends, whichever is the greater one
abbrev pub IsBetween : ℕ → ℕ → ℕ → Type 0
IsBetween start end p = ((start ≤ p) × (p ≤ end)) ⊎ ((end ≤ p) × (p ≤ start))

-- the place of a number lies on the axis, and is the whole number nearest to where the number stands exactly: at most half a unit from it
pub record IsPlace (axis : Axis) (n : ℤ) (p : ℕ) : Type 0 where
  pub inside : IsBetween axis.start axis.end p
  pub near : IsRounded ((pos axis.end -ℤ pos axis.start) *ℤ (n -ℤ axis.least)) (axis.greatest -ℤ axis.least) (pos p -ℤ pos axis.start)
