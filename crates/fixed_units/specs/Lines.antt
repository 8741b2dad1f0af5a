-- Straight lines between two points.
use Rattle.std.specs.Prelude.{ℤ, ◌+ℤ◌, ◌-ℤ◌, ◌*ℤ◌}
use Rattle.fixed_units.specs.Rounding.{round}

-- what the straight line from one point to another has at x, rounded once
abbrev pub line_at : ℤ × ℤ → ℤ × ℤ → ℤ → ℤ
line_at p q x = p.1 +ℤ round ((q.1 -ℤ p.1) *ℤ (x -ℤ p.0)) (q.0 -ℤ p.0)
