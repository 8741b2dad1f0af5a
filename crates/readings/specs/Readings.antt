-- A station's readings: a list that rises by instant.
use Rattle.std.specs.Prelude.{Bool, true, false, not, ◌&&◌, int_le, if◌then◌else◌, List, [], ◌∷◌, map, filter, Option, ℤ}
use Rattle.rising.specs.Lists as lists
use Rattle.fixed_units.specs.declared.readings.Reading.{Reading}
use Rattle.fixed_units.specs.declared.readings.Flag.{Flag}
use Rattle.fixed_units.specs.declared.readings.Flag.TheVariants.{Usable, Erroneous, Affected}

-- what a reading stands at
abbrev pub instant_of : Reading → ℤ
instant_of reading = reading.at

-- each reading stands before each later one
abbrev pub IsRising : List Reading → Type 0
IsRising readings = lists.IsRising instant_of readings

-- the readings before an instant, those after it and those from it on
abbrev pub before_instant : ℤ → List Reading → List Reading
before_instant at readings = lists.before instant_of at readings

abbrev pub after_instant : ℤ → List Reading → List Reading
after_instant at readings = lists.after instant_of at readings

abbrev pub from_instant : ℤ → List Reading → List Reading
from_instant at readings = lists.from instant_of at readings

-- the reading at an instant
abbrev pub at_instant : ℤ → List Reading → Option Reading
at_instant at readings = lists.at instant_of at readings

-- the readings with one put among them, in place of the one at its instant
abbrev pub put : Reading → List Reading → List Reading
put reading readings = lists.put instant_of reading readings

-- the readings with each of these put, one after another
abbrev pub put_all : List Reading → List Reading → List Reading
put_all [] readings = readings
put_all (r ∷ rs) readings = put_all rs (put r readings)

-- from an instant to another, both included
abbrev pub is_within : ℤ → ℤ → Reading → Bool
is_within from to reading = int_le from reading.at && int_le reading.at to

-- the readings of such a span, and those without it
abbrev pub in_span : ℤ → ℤ → List Reading → List Reading
in_span from to readings = filter (is_within from to) readings

abbrev pub without_span : ℤ → ℤ → List Reading → List Reading
without_span from to readings = filter (λ r. not (is_within from to r)) readings

-- the readings with those of a span flagged anew
abbrev pub flagged_where : Bool → Flag → Reading → Reading
flagged_where there flag reading = record { at = reading.at; raw = reading.raw; flag = if there then flag else reading.flag }

abbrev pub with_flag : ℤ → ℤ → Flag → List Reading → List Reading
with_flag from to flag readings = map (λ r. flagged_where (is_within from to r) flag r) readings

-- a reading is used unless it is erroneous
abbrev pub is_used_flag : Flag → Bool
is_used_flag Usable = true
is_used_flag Erroneous = false
is_used_flag Affected = true

abbrev pub is_used : Reading → Bool
is_used reading = is_used_flag reading.flag
