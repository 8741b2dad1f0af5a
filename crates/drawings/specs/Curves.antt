-- A curve of readings: which of them are drawn, where, and which are joined to the one before.
use Rattle.std.specs.Prelude.{ℕ, Bool, false, List, [], ◌∷◌, Option, None, Some, ℤ, ◌-ℤ◌, int_le, Contains}
use Rattle.drawings.specs.Axes.{IsPlace, place}
use Rattle.drawings.specs.declared.axes.Axis.{Axis}
use Rattle.drawings.specs.declared.curves.Sample.{Sample}
use Rattle.drawings.specs.declared.columns.Point.{Point}

-- the place of a sample in the frame of two axes, where both its numbers have one
abbrev pub both : Option ℕ → Option ℕ → Option (ℕ × ℕ)
both None y = None
both (Some x) None = None
both (Some x) (Some y) = Some (x, y)

abbrev pub spot : Axis → Axis → Sample → Option (ℕ × ℕ)
spot times values sample = both (place times sample.at) (place values sample.value)

-- whether a sample is joined to the one right before it, if that is drawn: the two are at most the gap apart
abbrev pub is_joined : ℤ → Option ℤ → ℤ → Bool
is_joined gap None at = false
is_joined gap (Some before) at = int_le (at -ℤ before) gap

-- the point of a sample that has a place, in front of those behind it
abbrev pub with_point : Bool → Option (ℕ × ℕ) → List Point → List Point
with_point joined None points = points
with_point joined (Some p) points = record { x = p.0; y = p.1; joined = joined } ∷ points

-- the instant that the next sample may be joined to: that of a sample that is drawn
abbrev pub drawn_at : ℤ → Option (ℕ × ℕ) → Option ℤ
drawn_at at None = None
drawn_at at (Some p) = Some at

-- the points of samples, behind one that is drawn at an instant or behind none
unfoldable pub points_behind : Axis → Axis → ℤ → Option ℤ → List Sample → List Point
points_behind times values gap before [] = []
points_behind times values gap before (sample ∷ samples) =
    with_point (is_joined gap before sample.at) (spot times values sample)
    (points_behind times values gap (drawn_at sample.at (spot times values sample)) samples)

-- the points of all samples
abbrev pub points_of : Axis → Axis → ℤ → List Sample → List Point
points_of times values gap samples = points_behind times values gap None samples

-- places across and up are those of a sample
pub record HasPlaces (times values : Axis) (sample : Sample) (p : ℕ × ℕ) : Type 0 where
  pub across : IsPlace times sample.at p.0
  pub up : IsPlace values sample.value p.1

-- a point stands at the places of one of the samples
pub record IsPointOf (times values : Axis) (samples : List Sample) (p : Point) : Type 0 where
  pub sample : Sample
  pub one : Contains samples sample
  pub places : HasPlaces times values sample (p.x, p.y)
