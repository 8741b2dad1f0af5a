-- What a source gives: the front of the bytes that are left.
use Rattle.std.specs.Prelude.{◌≡◌, ℕ, ◌<◌, ◌≤◌, List, [], ◌++◌, take, Option, IfSome, IsSomeAnd, ⊤}
use Rattle.devices.specs.declared.sources.Took.{Took}
use Rattle.devices.specs.declared.sources.Took.TheVariants.{Bytes, End, Failed}
use Rattle.devices.specs.Faults.{Rose}

-- at least one byte came, and no more than there was room for
abbrev pub IsTakenWithin : ℕ → Took → Type 0
IsTakenWithin room (Bytes n) = (0 < n) × (n ≤ room)
IsTakenWithin room End = ⊤
IsTakenWithin room Failed = ⊤

-- the bytes that came are the front of what was left before; at the end nothing was; a failure takes nothing
abbrev pub TakesFrom : List ℕ → List ℕ → List ℕ → Took → Type 0
TakesFrom before into after (Bytes n) = before ≡ take n into ++ after
TakesFrom before into after End = (before ≡ []) × (after ≡ [])
TakesFrom before into after Failed = after ≡ before

-- a source that tells what is left goes on telling it, and gives its front
abbrev pub Takes : Option (List ℕ) → List ℕ → Option (List ℕ) → Took → Type 0
Takes before into after took = IfSome before (λ b. IsSomeAnd after (λ a. TakesFrom b into a took))

-- the count of faults rises where it failed, and stays where it did not
abbrev pub HasCause : ℕ → ℕ → Took → Type 0
HasCause before now (Bytes n) = now ≡ before
HasCause before now End = now ≡ before
HasCause before now Failed = Rose before now

-- the count of ends rises where nothing was left, and only there
abbrev pub IsEndCounted : ℕ → ℕ → Took → Type 0
IsEndCounted before now (Bytes n) = now ≡ before
IsEndCounted before now End = Rose before now
IsEndCounted before now Failed = now ≡ before
