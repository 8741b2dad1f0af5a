-- Measurement notes: the verticals of a section.
use Rattle.std.specs.Prelude.{◌≡◌, ℕ, ◌≤◌, Bool, ◌||◌, nat_lt, List, length, ℤ, All}
use Rattle.fixed_units.specs.Quantities.{IsDischarge}
use Rattle.rising.specs.Lists.{IsRising}
use Rattle.midsection.specs.Midsection.{total}
use Rattle.midsection.specs.Verticals.{IsVertical}
use Rattle.midsection.specs.declared.verticals.Vertical.{Vertical}

-- how many verticals notes have at least and at most
abbrev pub least_verticals : ℕ
least_verticals = 3

abbrev pub most_verticals : ℕ
most_verticals = 200

abbrev pub is_off_count : ℕ → Bool
is_off_count n = nat_lt n least_verticals || nat_lt most_verticals n

-- the distance that a vertical stands at
abbrev pub distance_of : Vertical → ℤ
distance_of v = v.distance

-- verticals in order of their distances, which rise
pub record AreVerticals (verticals : List Vertical) : Type 0 where
  pub each : All IsVertical verticals
  pub rising : IsRising distance_of verticals

-- so many of them, of a total of 0 to 10,000,000 cubic feet per second
pub record IsNotes (verticals : List Vertical) : Type 0 where
  pub least : least_verticals ≤ length verticals
  pub most : length verticals ≤ most_verticals
  pub verticals_are : AreVerticals verticals
  pub total_is : IsDischarge (total verticals)

-- notes, and their total that is kept beside them
pub record IsKept (verticals : List Vertical) (sum : ℤ) : Type 0 where
  pub notes : IsNotes verticals
  pub sum_is : sum ≡ total verticals
