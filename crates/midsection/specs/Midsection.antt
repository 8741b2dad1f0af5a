-- The midsection method: the discharge of a stream by verticals (U.S. Geological Survey, Techniques and Methods 3-A8). Each vertical
-- stands for the part of the section from half way to the vertical before it to half way to the one after it.
use Rattle.std.specs.Prelude.{ℕ, ◌*◌, ◌^◌, nat_lt, if◌then◌else◌, List, [], ◌∷◌, slice_get, Option, None, Some, option_and_then, ℤ, pos, neg_ℤ, ◌+ℤ◌, ◌-ℤ◌, ◌*ℤ◌, unsigned_abs}
use Rattle.std.specs.Ordering.{int_eq}
use Rattle.fixed_units.specs.Quantities.{IsWithin}
use Rattle.fixed_units.specs.Rounding.{round}
use Rattle.midsection.specs.Fractions.{half, rounded, times, whole}
use Rattle.midsection.specs.Verticals.{velocity}
use Rattle.midsection.specs.declared.fractions.Fraction.{Fraction}
use Rattle.midsection.specs.declared.verticals.Vertical.{Vertical}

-- the width of a vertical by distances in millionths of a foot: half the distance between its two neighbours, at an end half the distance
-- to the one neighbour
abbrev pub width : Option ℤ → ℤ → Option ℤ → Fraction
width (Some before) distance (Some after) = half (after -ℤ before)
width (Some before) distance None = half (distance -ℤ before)
width None distance (Some after) = half (after -ℤ distance)
width None distance None = half (pos 0)

-- millionths of a foot per second, of a foot and of a foot, multiplied, are so many to a millionth of a cubic foot per second
abbrev pub parts : ℕ
parts = 10 ^ 12

abbrev pub over_parts : Fraction → Fraction
over_parts f = record { num = f.num; den = f.den *ℤ pos parts }

-- the discharge of a vertical: velocity times depth times width, rounded once to a millionth of a cubic foot per second
abbrev pub discharge_between : Option ℤ → Vertical → Option ℤ → ℤ
discharge_between before v after =
    rounded (over_parts (times (times (velocity v) (whole v.depth)) (width before v.distance after)))

-- the distance of the first of the verticals, if there is one
abbrev pub next_distance : List Vertical → Option ℤ
next_distance [] = None
next_distance (v ∷ rest) = Some v.distance

-- the widths and the discharges of verticals, behind one at a distance
unfoldable pub widths_behind : Option ℤ → List Vertical → List Fraction
widths_behind before [] = []
widths_behind before (v ∷ rest) = width before v.distance (next_distance rest) ∷ widths_behind (Some v.distance) rest

unfoldable pub discharges_behind : Option ℤ → List Vertical → List ℤ
discharges_behind before [] = []
discharges_behind before (v ∷ rest) = discharge_between before v (next_distance rest) ∷ discharges_behind (Some v.distance) rest

-- those of all verticals of a section
abbrev pub widths : List Vertical → List Fraction
widths verticals = widths_behind None verticals

abbrev pub discharges : List Vertical → List ℤ
discharges verticals = discharges_behind None verticals

-- the distance of the last of the verticals, or the one before them
abbrev pub last_distance : Option ℤ → List Vertical → Option ℤ
last_distance before [] = before
last_distance before (v ∷ rest) = last_distance (Some v.distance) rest

-- a discharge of a vertical is at most so much either way
abbrev pub IsFlow : ℤ → Type 0
IsFlow n = IsWithin (neg_ℤ (pos (2 * 10 ^ 16))) (pos (2 * 10 ^ 16)) n

-- the discharge of the stream is the sum of the rounded ones
unfoldable pub sum_of : List ℤ → ℤ
sum_of [] = pos 0
sum_of (n ∷ ns) = n +ℤ sum_of ns

abbrev pub total : List Vertical → ℤ
total verticals = sum_of (discharges verticals)

-- the greatest magnitude of a share that is told
abbrev pub most_share : ℕ
most_share = 10 ^ 15

abbrev pub told_share : ℤ → Option ℤ
told_share share = if nat_lt most_share (unsigned_abs share) then None else Some share

-- the share that a discharge is of the total, in hundredths of a percent; none of a total of 0
abbrev pub share_of : ℤ → ℤ → Option ℤ
share_of total discharge =
    if int_eq total (pos 0) then None else told_share (round (pos 10_000 *ℤ discharge) total)

-- the share of the vertical at a place
abbrev pub share_at : List Vertical → ℕ → Option ℤ
share_at verticals place = option_and_then (share_of (total verticals)) (slice_get (discharges verticals) place)
