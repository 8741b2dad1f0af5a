-- What is taken of an input that is read whole.
use Rattle.std.specs.Prelude.{◌≡◌, ℕ, ◌≤◌, List, [], ◌++◌, length, Option, IfSome, IsSomeAnd}

-- this front of the input was taken, and the rest is left
abbrev pub IsTaken : Option (List ℕ) → List ℕ → Option (List ℕ) → Type 0
IsTaken before front after = IfSome before (λ input. IsSomeAnd after (λ left. input ≡ front ++ left))

-- what was taken stands at the end of the text
abbrev pub Grows : Option (List ℕ) → List ℕ → List ℕ → Option (List ℕ) → Type 0
Grows before old new after = (piece : List ℕ) × (new ≡ old ++ piece) × IsTaken before piece after

-- all of the input was taken
abbrev pub IsWhole : Option (List ℕ) → List ℕ → Option (List ℕ) → Type 0
IsWhole before text after = IfSome before (λ input. IsSomeAnd after (λ left. (input ≡ text) × (left ≡ [])))

-- no more than so many bytes were taken
abbrev pub IsTakenAtMost : ℕ → List ℕ → List ℕ → Type 0
IsTakenAtMost most input left = (front : List ℕ) × (input ≡ front ++ left) × (length front ≤ most)

abbrev pub IsTakenWithin : ℕ → Option (List ℕ) → Option (List ℕ) → Type 0
IsTakenWithin most before after = IfSome before (λ input. IsSomeAnd after (IsTakenAtMost most input))
