-- The values of days that follow each other, kept so that a day of which nothing was published has none.
use Rattle.std.specs.Prelude.{◌≡◌, ℕ, zero, suc, ◌<◌, ◌≤◌, nat_lt, List, length, map, count_by, slice_index_or}
use Rattle.daily_values.specs.declared.day_values.DayValue.{DayValue}
use Rattle.daily_values.specs.declared.day_values.DayValue.TheVariants.{Empty}

-- the published value in a place, counted from 1, and the empty one in the place 0
abbrev pub value_in : List DayValue → ℕ → DayValue
value_in published zero = Empty
value_in published (suc place) = slice_index_or published place Empty

-- the values of days whose places these are
abbrev pub values_in : List DayValue → List ℕ → List DayValue
values_in published places = map (value_in published) places

-- each place but 0 is that of a published value, and of one day alone; there is a value for each of these days and room for the others
pub record KeepsValues (places : List ℕ) (published : List DayValue) (room : ℕ) : Type 0 where
  pub within : (k : ℕ) → slice_index_or places k 0 ≤ length published
  pub distinct : (k m : ℕ) → 0 < slice_index_or places k 0 → slice_index_or places k 0 ≡ slice_index_or places m 0 → k ≡ m
  pub counted : length published ≡ count_by (nat_lt 0) places
  pub enough : length places ≤ room
  pub few : length places < 4_294_967_296
