-- The window of a day: the used readings of the day, and the nearest used reading on either side where it is
-- near enough. A filter over the whole list (this project's choice of which neighbours count).
use Rattle.std.specs.Prelude.{◌≡◌, Bool, ◌&&◌, List, [], ◌∷◌, ◌++◌, filter, find, reverse, Option, Some, None, option_and_then, option_to_list, ℤ, int_lt, int_le, ◌-ℤ◌, ◌<ℤ◌, ◌≤ℤ◌, if◌then◌else◌}
use Rattle.fixed_units.specs.declared.readings.Reading.{Reading}
use Rattle.readings.specs.Readings.{is_used}

-- from a on and before b
abbrev pub is_of_day : ℤ → ℤ → Reading → Bool
is_of_day a b reading = int_le a reading.at && int_lt reading.at b

-- the readings of the day, erroneous ones among them
abbrev pub of_day : ℤ → ℤ → List Reading → List Reading
of_day a b readings = filter (is_of_day a b) readings

-- the used ones
abbrev pub inner : ℤ → ℤ → List Reading → List Reading
inner a b readings = filter (λ r. is_used r && is_of_day a b r) readings

-- the reading, if it stands at most so many seconds from an instant
abbrev pub near : ℤ → ℤ → Reading → Option Reading
near seconds distance reading = if int_le distance seconds then Some reading else None

-- a reading that was found, if it is at most so many seconds before a, or after b
abbrev pub lead : ℤ → ℤ → Option Reading → Option Reading
lead a gap found = option_and_then (λ r. near gap (a -ℤ r.at) r) found

abbrev pub follow : ℤ → ℤ → Option Reading → Option Reading
follow b gap found = option_and_then (λ r. near gap (r.at -ℤ b) r) found

-- the last used reading before a, if it is at most gap seconds before a
abbrev pub neighbour_before : ℤ → ℤ → List Reading → Option Reading
neighbour_before a gap readings =
    lead a gap (find (λ r. is_used r && int_lt r.at a) (reverse readings))

-- the first used reading at or after b, if it is at most gap seconds after b
abbrev pub neighbour_after : ℤ → ℤ → List Reading → Option Reading
neighbour_after b gap readings =
    follow b gap (find (λ r. is_used r && int_le b r.at) readings)

-- the readings of a day with these neighbours; without a reading of its own a day has no window
abbrev pub with_neighbours : Option Reading → List Reading → Option Reading → List Reading
with_neighbours before [] after = []
with_neighbours before (r ∷ rs) after = option_to_list before ++ (r ∷ rs) ++ option_to_list after

-- the window of the day [a, b)
abbrev pub window : ℤ → ℤ → ℤ → List Reading → List Reading
window a b gap readings =
    with_neighbours (neighbour_before a gap readings) (inner a b readings) (neighbour_after b gap readings)

-- those of the neighbours of a day that count: none where the day has no used reading of its own
abbrev pub if_some : List Reading → Option Reading → Option Reading
if_some [] neighbour = None
if_some (r ∷ rs) neighbour = neighbour

abbrev pub window_before : ℤ → ℤ → ℤ → List Reading → Option Reading
window_before a b gap readings = if_some (inner a b readings) (neighbour_before a gap readings)

abbrev pub window_after : ℤ → ℤ → ℤ → List Reading → Option Reading
window_after a b gap readings = if_some (inner a b readings) (neighbour_after b gap readings)

-- the used readings before a, and those from b on
abbrev pub used_before : ℤ → List Reading → List Reading
used_before a readings = filter (λ r. is_used r && int_lt r.at a) readings

abbrev pub used_from : ℤ → List Reading → List Reading
used_from b readings = filter (λ r. is_used r && int_le b r.at) readings

-- The neighbour before a day by cases: the last used reading before a, which is at most gap seconds before it; none where the last one,
-- if there is any, is farther.
abbrev pub IsLead : ℤ → ℤ → List Reading → Option Reading → Type 0
IsLead a gap readings (Some r) =
    ((front : List Reading) × (used_before a readings ≡ front ++ r ∷ [])) × ((a -ℤ r.at) ≤ℤ gap)
IsLead a gap readings None =
    (front : List Reading) (r : Reading) → used_before a readings ≡ front ++ r ∷ [] → gap <ℤ (a -ℤ r.at)

-- and that behind it: the first used reading from b on
abbrev pub IsFollow : ℤ → ℤ → List Reading → Option Reading → Type 0
IsFollow b gap readings (Some r) =
    ((rest : List Reading) × (used_from b readings ≡ r ∷ rest)) × ((r.at -ℤ b) ≤ℤ gap)
IsFollow b gap readings None =
    (rest : List Reading) (r : Reading) → used_from b readings ≡ r ∷ rest → gap <ℤ (r.at -ℤ b)

-- a window by cases: the used readings of the day with those neighbours, or nothing where the day has no used reading of its own
pub record IsWindow (a b gap : ℤ) (readings list : List Reading) : Type 0 where
  pub before : Option Reading
  pub after : Option Reading
  pub lead : IsLead a gap readings before
  pub follow : IsFollow b gap readings after
  pub whole : list ≡ with_neighbours before (inner a b readings) after
