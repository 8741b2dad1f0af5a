-- How far an office that is being opened has read its journal.
use Rattle.std.specs.Prelude.{◌≡◌, ℕ, true, false, List, [], ◌∷◌, ◌++◌, Bool, Option, IfSome, Result, Ok, Err, ⊤}
use Rattle.devices.specs.declared.disks.Disk.{Ghosts}
use Rattle.devices.specs.Faults.{Rose}
use Rattle.history.specs.After.{reopen}
use Rattle.journal.specs.Reading.{HasRead, HasEnded}
use Rattle.journal.specs.declared.opening.Opening.{Opening}
use Rattle.journal.specs.declared.opening.OpenFault.{OpenFault}
use Rattle.journal.specs.declared.opening.OpenFault.TheVariants.{Fault, NotAJournal, Damaged, NoMemory}
use Rattle.office.specs.Openings.{IsDamagedFor}
use Rattle.office_inputs.specs.declared.limits.Limits.{Limits}
use Rattle.records.specs.Sheets.{Record}
use Rattle.register.specs.Registered.{Registered, NoneOut}

-- these records were read, and each was accepted in its turn
pub record HasReadmitted {D : Type 0} {g : Ghosts D} (limits : Limits) (pieces : List Record) (register : Registered) (opening : Opening D g) : Type 0 where
  pub read : HasRead pieces opening
  pub reopened : register.history ≡ reopen limits opening.format pieces
  pub claims : NoneOut register

-- and the gate behind them is closed
pub record HasReadmittedAll {D : Type 0} {g : Ghosts D} (limits : Limits) (pieces : List Record) (register : Registered) (opening : Opening D g) : Type 0 where
  pub ended : HasEnded pieces opening
  pub reopened : register.history ≡ reopen limits opening.format pieces
  pub claims : NoneOut register

-- what is read next, whether it is a record
abbrev pub ReadsNext : {D : Type 0} {g : Ghosts D} → Limits → List Record → Registered → Opening D g → Result Bool OpenFault → Type 0
ReadsNext limits pieces register opening (Ok true) = (piece : Record) × HasReadmitted limits (pieces ++ piece ∷ []) register opening
ReadsNext limits pieces register opening (Ok false) = HasReadmittedAll limits pieces register opening
ReadsNext limits pieces register opening (Err _) = ⊤

-- why the reading of a journal ends early
abbrev pub IsReadFault : Option (List ℕ) → Limits → OpenFault → ℕ → ℕ → Type 0
IsReadFault content limits Fault before now = Rose before now
IsReadFault content limits NotAJournal before now = ⊥
IsReadFault content limits (Damaged at) before now = IfSome content (IsDamagedFor limits at)
IsReadFault content limits NoMemory before now = ⊤
