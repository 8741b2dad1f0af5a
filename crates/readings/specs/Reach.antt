-- How far readings bear on the window of a day.
use Rattle.std.specs.Prelude.{ℤ, pos, ◌+ℤ◌, ◌-ℤ◌, ◌<ℤ◌, ◌⊎◌, List, Option, Some, None}
use Rattle.fixed_units.specs.declared.readings.Reading.{Reading}
use Rattle.readings.specs.Window.{inner, neighbour_before, neighbour_after}

-- a reading stands farther from the day [a, b) than the gap
abbrev pub IsFar : ℤ → ℤ → ℤ → Reading → Type 0
IsFar a b gap reading = ((reading.at +ℤ gap) <ℤ a) ⊎ ((b +ℤ gap) <ℤ reading.at)

-- from where on the readings before a day bear on its window: from its neighbour on, or as far as the gap where it has none
abbrev pub lead_from : ℤ → ℤ → Option Reading → ℤ
lead_from a gap None = a -ℤ gap
lead_from a gap (Some reading) = reading.at

-- before which the readings behind a day bear on its window: up to its neighbour, or as far as the gap where it has none
abbrev pub follow_until : ℤ → ℤ → Option Reading → ℤ
follow_until b gap None = (b +ℤ gap) +ℤ pos 1
follow_until b gap (Some reading) = reading.at +ℤ pos 1

-- the used ones of other readings that stand where these, before a day or behind it, bear on its window
abbrev pub lead_used : ℤ → ℤ → List Reading → List Reading → List Reading
lead_used a gap readings others = inner (lead_from a gap (neighbour_before a gap readings)) a others

abbrev pub follow_used : ℤ → ℤ → List Reading → List Reading → List Reading
follow_used b gap readings others = inner b (follow_until b gap (neighbour_after b gap readings)) others
