-- The ends of a list.
use Rattle.std.specs.Prelude.{◌-◌, List, length, slice_get, Option}

-- the first element of a list, and the last
abbrev pub first : {X : Type 0} → List X → Option X
first xs = slice_get xs 0

abbrev pub last : {X : Type 0} → List X → Option X
last xs = slice_get xs (length xs - 1)
