-- Edits that are in force and are sent again.
use Rattle.std.specs.Prelude.{◌≡◌, ◌⊎◌, ℕ, ◌+◌, List, [], ◌∷◌, slice_get, Some, ⊤}
use Rattle.edits.specs.declared.content.Edit.{Edit}
use Rattle.history.specs.Accepted.{edits_of}
use Rattle.history.specs.Events.{History}
use Rattle.office_inputs.specs.declared.refusals.Refusal.TheVariants.{NoMemory}
use Rattle.told_edits.specs.Lines.{accepted_line, refused_line}

-- an edit was accepted under this number, counted from 1
abbrev pub IsInForce : History → Edit → ℕ → Type 0
IsInForce h edit number = (place : ℕ) × (number ≡ place + 1) × (slice_get (edits_of h.events) place ≡ Some edit)

-- each of these was, under its number
abbrev pub AreInForce : History → List Edit → List ℕ → Type 0
AreInForce h [] [] = ⊤
AreInForce h [] (number ∷ numbers) = ⊥
AreInForce h (edit ∷ edits) [] = ⊥
AreInForce h (edit ∷ edits) (number ∷ numbers) = IsInForce h edit number × AreInForce h edits numbers

-- a line tells the number, or that there was no memory to look
abbrev pub IsToldAgain : List ℕ → ℕ → List ℕ → Type 0
IsToldAgain end number line = (line ≡ accepted_line end number) ⊎ (line ≡ refused_line end NoMemory)

abbrev pub AreToldAgain : (Edit → List ℕ) → List Edit → List ℕ → List (List ℕ) → Type 0
AreToldAgain end [] [] [] = ⊤
AreToldAgain end [] [] (line ∷ lines) = ⊥
AreToldAgain end [] (number ∷ numbers) lines = ⊥
AreToldAgain end (edit ∷ edits) [] lines = ⊥
AreToldAgain end (edit ∷ edits) (number ∷ numbers) [] = ⊥
AreToldAgain end (edit ∷ edits) (number ∷ numbers) (line ∷ lines) = IsToldAgain (end edit) number line × AreToldAgain end edits numbers lines

-- a line tells a number
abbrev pub TellsNumber : List ℕ → List ℕ → Type 0
TellsNumber end line = (number : ℕ) × (line ≡ accepted_line end number)

-- each of the lines of these edits does
abbrev pub TellNumbers : (Edit → List ℕ) → List Edit → List (List ℕ) → Type 0
TellNumbers end [] [] = ⊤
TellNumbers end [] (line ∷ lines) = ⊥
TellNumbers end (edit ∷ edits) [] = ⊥
TellNumbers end (edit ∷ edits) (line ∷ lines) = TellsNumber (end edit) line × TellNumbers end edits lines

-- where a line told a number it is told again, or that there was no memory to look
abbrev pub IsToldAsBefore : List ℕ → List ℕ → List ℕ → Type 0
IsToldAsBefore end line again = TellsNumber end line → (again ≡ line) ⊎ (again ≡ refused_line end NoMemory)

abbrev pub AreToldAsBefore : (Edit → List ℕ) → List Edit → List (List ℕ) → List (List ℕ) → Type 0
AreToldAsBefore end [] [] [] = ⊤
AreToldAsBefore end [] [] (line ∷ again) = ⊥
AreToldAsBefore end [] (line ∷ lines) again = ⊥
AreToldAsBefore end (edit ∷ edits) [] again = ⊥
AreToldAsBefore end (edit ∷ edits) (line ∷ lines) [] = ⊥
AreToldAsBefore end (edit ∷ edits) (line ∷ lines) (told ∷ again) = IsToldAsBefore (end edit) line told × AreToldAsBefore end edits lines again
