-- Places in a list.
use Rattle.std.specs.Prelude.{◌≡◌, ℕ, ◌-◌, zero, suc, ◌+◌, ◌==◌, nat_lt, if◌then◌else◌, List, [], ◌∷◌, length}

-- the count places from `from` on
abbrev pub places : ℕ → ℕ → List ℕ
places from zero = []
places from (suc count) = from ∷ places (suc from) count

-- how often x stands in the list
abbrev pub times : ℕ → List ℕ → ℕ
times x [] = 0
times x (y ∷ ys) = (if y == x then 1 else 0) + times x ys

-- the longer of the two lists
abbrev pub longer : {E : Type 0} → List E → List E → List E
longer xs ys = if nat_lt (length xs) (length ys) then ys else xs

-- the list has just the places from the first one up to the end, that one excluded, each once
abbrev pub IsEachOnce : ℕ → ℕ → List ℕ → Type 0
IsEachOnce from end tally = (x : ℕ) → times x tally ≡ times x (places from (end - from))
