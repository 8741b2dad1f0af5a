-- Holdings of a lock, one behind another.
use Rattle.std.specs.Prelude.{ℕ, ◌-◌, List, [], ◌∷◌, ◌++◌, Option, Some, None}
use Rattle.turnstile.specs.Places.{places}

-- what had happened when the lock's value was taken, and when it was given back
pub record Holding (H : Type 0) : Type 0 where
  pub from : H
  pub to : H

module _ {H : Type 0} where
  -- holdings from one moment to another; `Passed` is what may pass between two of them, by others
  abbrev pub Follow : (H → H → Type 0) → H → List (Holding H) → H → Type 0
  Follow Passed h [] after = Passed h after
  Follow Passed h (x ∷ xs) after = Passed h x.from × Follow Passed x.to xs after

  -- the places of what they added
  abbrev pub places_of : (H → ℕ) → List (Holding H) → List ℕ
  places_of size [] = []
  places_of size (x ∷ xs) = places (size x.from) (size x.to - size x.from) ++ places_of size xs

  abbrev pub last_of : List (Holding H) → Option (Holding H)
  last_of [] = None
  last_of (x ∷ []) = Some x
  last_of (x ∷ (y ∷ xs)) = last_of (y ∷ xs)
