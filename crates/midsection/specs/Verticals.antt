-- Verticals of a measurement of discharge, and the mean velocity in one.
use Rattle.std.specs.Prelude.{ℕ, ◌*◌, ◌^◌, Bool, true, ◌&&◌, if◌then◌else◌, Option, None, Some, IsSome, IfSome, unwrap_or, ℤ, pos, neg_ℤ, ◌+ℤ◌, ◌*ℤ◌, ◌≤ℤ◌}
use Rattle.std.specs.Ordering.{int_eq}
use Rattle.fixed_units.specs.Quantities.{IsWithin, is_within}
use Rattle.midsection.specs.Fractions.{whole}
use Rattle.midsection.specs.declared.fractions.Fraction.{Fraction}
use Rattle.midsection.specs.declared.verticals.Vertical.{Vertical}

-- the greatest distance and depth in millionths of a foot, 100,000 and 1,000 feet, and the greatest magnitude of a velocity in millionths
-- of a foot per second, 100
abbrev pub most_distance : ℕ
most_distance = 10 ^ 11

abbrev pub most_depth : ℕ
most_depth = 10 ^ 9

abbrev pub most_velocity : ℕ
most_velocity = 10 ^ 8

abbrev pub is_distance : ℤ → Bool
is_distance n = is_within (pos 0) (pos most_distance) n

abbrev pub is_depth : ℤ → Bool
is_depth n = is_within (pos 0) (pos most_depth) n

abbrev pub is_velocity : ℤ → Bool
is_velocity n = is_within (neg_ℤ (pos most_velocity)) (pos most_velocity) n

abbrev pub is_velocity_or_none : Option ℤ → Bool
is_velocity_or_none None = true
is_velocity_or_none (Some n) = is_velocity n

-- each number of a vertical is in its range
abbrev pub is_in_range : Vertical → Bool
is_in_range v = is_distance v.distance && is_depth v.depth
    && is_velocity_or_none v.v2 && is_velocity_or_none v.v6 && is_velocity_or_none v.v8

abbrev pub IsDistance : ℤ → Type 0
IsDistance n = IsWithin (pos 0) (pos most_distance) n

abbrev pub IsVelocity : ℤ → Type 0
IsVelocity n = IsWithin (neg_ℤ (pos most_velocity)) (pos most_velocity) n

-- the mean velocity by what was measured at two, six and eight tenths of the depth: at six alone, at two and eight, or at all three;
-- there is none by others
abbrev pub mean_velocity : Option ℤ → Option ℤ → Option ℤ → Option Fraction
mean_velocity None (Some v6) None = Some (whole v6)
mean_velocity (Some v2) None (Some v8) = Some (record { num = v2 +ℤ v8; den = pos 2 })
mean_velocity (Some v2) (Some v6) (Some v8) = Some (record { num = v2 +ℤ pos 2 *ℤ v6 +ℤ v8; den = pos 4 })
mean_velocity None None None = None
mean_velocity None None (Some v8) = None
mean_velocity None (Some v6) (Some v8) = None
mean_velocity (Some v2) None None = None
mean_velocity (Some v2) (Some v6) None = None

-- where there is no depth it is 0, and none is measured
abbrev pub no_velocity : Option ℤ → Option ℤ → Option ℤ → Option Fraction
no_velocity None None None = Some (whole (pos 0))
no_velocity None None (Some v8) = None
no_velocity None (Some v6) v8 = None
no_velocity (Some v2) v6 v8 = None

-- the velocity of a vertical, where one of these methods was used
abbrev pub velocity_by_method : Vertical → Option Fraction
velocity_by_method v =
    if int_eq v.depth (pos 0) then no_velocity v.v2 v.v6 v.v8 else mean_velocity v.v2 v.v6 v.v8

abbrev pub velocity : Vertical → Fraction
velocity v = unwrap_or (velocity_by_method v) (whole (pos 0))

-- a vertical of measurement notes: its numbers are in range, and one of the methods was used
pub record IsVertical (v : Vertical) : Type 0 where
  pub distance : IsDistance v.distance
  pub depth : IsWithin (pos 0) (pos most_depth) v.depth
  pub v2 : IfSome v.v2 IsVelocity
  pub v6 : IfSome v.v6 IsVelocity
  pub v8 : IfSome v.v8 IsVelocity
  pub method : IsSome (velocity_by_method v)

-- a mean of at most four velocities, before it is divided
pub record IsMean (mean : Fraction) : Type 0 where
  pub low : neg_ℤ (pos (4 * most_velocity)) ≤ℤ mean.num
  pub high : mean.num ≤ℤ pos (4 * most_velocity)
  pub some : pos 1 ≤ℤ mean.den
  pub few : mean.den ≤ℤ pos 4
