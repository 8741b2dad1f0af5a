-- What days contain, and what a column of them says of a day.
use Rattle.std.specs.Prelude.{Bool, if◌then◌else◌, List, slice_index_or, ℤ, ◌-ℤ◌, int_le, unsigned_abs}
use Rattle.std.specs.List.{list_any}
use Rattle.std.specs.Ordering.{int_eq}

-- the day is among the days
abbrev pub contains_day : List ℤ → ℤ → Bool
contains_day days day = list_any (λ d. int_eq d day) days

-- what a column whose first element is that of the day `start` says of a day; of a day outside it, `none`
unfoldable pub on_day : {X : Type 0} → ℤ → List X → X → ℤ → X
on_day start column none day =
    if int_le start day then slice_index_or column (unsigned_abs (day -ℤ start)) none else none
