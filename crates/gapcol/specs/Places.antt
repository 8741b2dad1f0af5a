-- A row of places, each empty or with a value in it.
use Rattle.std.specs.Prelude.{◌≡◌, ℕ, ◌+◌, ◌≤◌, List, [], ◌∷◌, ◌++◌, map, length, take, drop, replicate, get_or, Option, Some, None}

module _ {X : Type 0} where
  -- the values that are there, in order
  abbrev pub somes : List (Option X) → List X
  somes [] = []
  somes (None ∷ cs) = somes cs
  somes (Some x ∷ cs) = x ∷ somes cs

  -- the place has a value in it
  abbrev pub IsFilled : List (Option X) → ℕ → Type 0
  IsFilled cs i = (x : X) × (get_or cs i None ≡ Some x)

  -- so many places from a place on have values in them
  abbrev pub IsRun : List (Option X) → ℕ → ℕ → Type 0
  IsRun cs from len = (from + len ≤ length cs) × ((xs : List X) × (take len (drop from cs) ≡ map Some xs))

  -- places with values, then n empty ones, then places with values
  unfoldable pub gapped : List X → ℕ → List X → List (Option X)
  gapped xs n ys = map Some xs ++ (replicate n None ++ map Some ys)
