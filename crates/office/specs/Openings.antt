-- What the opening of an office answers.
use Rattle.std.specs.Prelude.{◌≡◌, ◌⊎◌, ℕ, ◌≤◌, List, [], ◌∷◌, ◌++◌, length, All, Option, IsSome, IfSome, ⊤}
use Rattle.devices.specs.Faults.{Rose}
use Rattle.history.specs.Accepted.{accepted}
use Rattle.history.specs.After.{reopen}
use Rattle.history.specs.Events.{Event, History}
use Rattle.history.specs.Legal.{IsLegal}
use Rattle.journal.specs.JournalBytes.{HasAnyHeader, IsDamagedAt, IsJournalOf, InGrammar, front, block}
use Rattle.journal.specs.declared.opening.OpenFault.{OpenFault}
use Rattle.journal.specs.declared.opening.OpenFault.TheVariants.{Fault, NotAJournal, Damaged, NoMemory}
use Rattle.office.specs.Stops.{MayFollow}
use Rattle.office_inputs.specs.declared.limits.Limits.{Limits}
use Rattle.records.specs.Sheets.{Record}
use Rattle.records.specs.declared.formats.Format.{Format}
use Rattle.register.specs.Asked.{readmission_refusal}
use Rattle.register.specs.Registered.{Registered, NoneOut}

-- The journal that was found is that of these records in the history's format, and the office goes on from them; no claim is out.
pub record IsOpened (content : Option (List ℕ)) (limits : Limits) (register : Registered) : Type 0 where
  pub pieces : List Record
  pub found : IfSome content (IsJournalOf register.history.format pieces)
  pub reopened : register.history ≡ reopen limits register.history.format pieces
  pub legal : IsLegal register.history
  pub claims : NoneOut register

-- At this gate a record of the journal's format stands that is not accepted behind those before it: its reference is that of one of them,
-- the stations in force or the statuses of its days refuse it, or it would change an approved day.
pub record IsRefusedAt (limits : Limits) (at : ℕ) (bytes : List ℕ) : Type 0 where
  pub format : Format
  pub pieces : List Record
  pub piece : Record
  pub rest : List ℕ
  pub grammar : All (InGrammar format) (pieces ++ piece ∷ [])
  pub legal : IsLegal (reopen limits format pieces)
  pub bytes_are : bytes ≡ front format pieces ++ (block format piece ++ rest)
  pub place : at ≡ length (front format pieces)
  pub refused : IsSome (readmission_refusal (reopen limits format pieces) piece.edit)

-- at this gate the journal is damaged in its format, and the records before it are accepted
abbrev pub LacksRecordAt : Limits → ℕ → List ℕ → Type 0
LacksRecordAt limits at bytes = (format : Format) × (damaged : IsDamagedAt format at bytes) × IsLegal (reopen limits format damaged.pieces)

-- a journal is damaged for an office at the first gate without a record, or with one that is not accepted
abbrev pub IsDamagedFor : Limits → ℕ → List ℕ → Type 0
IsDamagedFor limits at bytes = LacksRecordAt limits at bytes ⊎ IsRefusedAt limits at bytes

-- An office with this history may open on these bytes, when these events are still to come: they are the journal of the accepted edits
-- in the history's format, or of these and one record more that may follow them, and each of them is accepted again.
pub record MayOpen (h : History) (behind : List Event) (bytes : List ℕ) : Type 0 where
  pub more : List Record
  pub few : length more ≤ 1
  pub which : All (MayFollow h behind) more
  pub found : IsJournalOf h.format (accepted h.events ++ more) bytes
  pub legal : IsLegal (reopen h.limits h.format (accepted h.events ++ more))

-- why an office is not opened, over a disk with this content and counts of faults
abbrev pub IsNotOpened : Option (List ℕ) → Limits → OpenFault → ℕ → ℕ → Type 0
IsNotOpened content limits Fault before now = Rose before now
IsNotOpened content limits NotAJournal before now = IfSome content (λ bytes. ¬ HasAnyHeader bytes)
IsNotOpened content limits (Damaged at) before now = IfSome content (IsDamagedFor limits at)
IsNotOpened content limits NoMemory before now = ⊤
