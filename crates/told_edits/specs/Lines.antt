-- The lines that tell what became of edits.
use Rattle.std.specs.Prelude.{◌≡◌, ℕ, Bool, false, List, [], ◌∷◌, ◌++◌, length, take, codes, decimal, bytes_eq, Result, Ok, Err}
use Rattle.edits.specs.declared.content.Edit.{Edit}
use Rattle.history.specs.Events.{History}
use Rattle.http_api.specs.Failures.{refusal_row}
use Rattle.office.specs.Edits.{Edits}
use Rattle.office.specs.declared.offices.Accepted.{Accepted}
use Rattle.office_inputs.specs.declared.refusals.Refusal.{Refusal}
use Rattle.office_inputs.specs.declared.refusals.Refusal.TheVariants.{JournalFault}

-- the edit is in force under this number, now or since it was sent before
abbrev pub accepted_line : List ℕ → ℕ → List ℕ
accepted_line end number = codes "edit " ++ decimal number ++ end

-- the edit is refused, for want of memory and for a fault of the journal too
abbrev pub refused_line : List ℕ → Refusal → List ℕ
refused_line end refusal = codes "refused " ++ (refusal_row refusal).code ++ end

abbrev pub told_line : List ℕ → Result Accepted Refusal → List ℕ
told_line end (Ok told) = accepted_line end told.number
told_line end (Err refusal) = refused_line end refusal

-- the line has the code of a failed journal, which no other code begins with
abbrev pub failed_front : List ℕ
failed_front = codes "refused " ++ (refusal_row (JournalFault false)).code

abbrev pub tells_fault_line : List ℕ → Bool
tells_fault_line line = bytes_eq (take (length failed_front) line) failed_front

-- the office is asked an edit, and what it answers is told in this line, with this end
pub record IsSent (end : List ℕ) (h : History) (edit : Edit) (line : List ℕ) (next : History) : Type 0 where
  pub told : Result Accepted Refusal
  pub edited : Edits h edit next told
  pub line_is : line ≡ told_line end told

-- it is asked these edits, one behind another, and each is told in a line, with the end that is due to it
abbrev pub AreSent : (Edit → List ℕ) → History → List Edit → List (List ℕ) → History → Type 0
AreSent end h [] [] after = after ≡ h
AreSent end h [] (line ∷ lines) after = ⊥
AreSent end h (edit ∷ edits) [] after = ⊥
AreSent end h (edit ∷ edits) (line ∷ lines) after = (next : History) × IsSent (end edit) h edit line next × AreSent end next edits lines after
