-- What it comes to that a record is kept in a journal which may be in doubt.
use Rattle.std.specs.Prelude.{◌≡◌, ◌⊎◌, ℕ, ◌+◌, Bool, true, false, List, [], ◌∷◌, ◌++◌, Option, Some, None, is_some, Result, Ok, Err}
use Rattle.devices.specs.declared.disks.DiskFailed.{DiskFailed}
use Rattle.devices.specs.declared.disks.Disk.{Ghosts}
use Rattle.history.specs.After.{leaves_doubt, left_by}
use Rattle.history.specs.declared.recorded.NotKept.{NotKept}
use Rattle.journal.specs.JournalBytes.{StandsFor}
use Rattle.journal.specs.Keeping.{Holds}
use Rattle.journal.specs.declared.keeping.Journal.{Journal}
use Rattle.office.specs.Edits.{FailedCalls, FailsToMend, TakenCalls, mended}
use Rattle.records.specs.Sheets.{Record}
use Rattle.records.specs.declared.formats.Format.{Format}

-- the journal holds one record more and is in no doubt; or after a fault the same records
abbrev pub Keeps : {D T : Type 0} {g : Ghosts D} → List Record → Record → Option Record → Journal D g → Result T NotKept → Type 0
Keeps pieces piece left journal (Ok done) = Holds (pieces ++ piece ∷ []) None journal
Keeps pieces piece left journal (Err failed) = Holds pieces left journal

-- which record it is in doubt of then
abbrev pub Leaves : {T : Type 0} → Option Record → Record → Option Record → Result T NotKept → Type 0
Leaves before piece left (Ok done) = left ≡ None
Leaves before piece left (Err failed) =
    (is_some left ≡ leaves_doubt failed) × (left ≡ left_by before piece failed)

-- where its last gate is
abbrev pub gate_of : {T : Type 0} → ℕ → ℕ → Result T NotKept → ℕ
gate_of gate count (Ok done) = gate + count
gate_of gate count (Err failed) = gate

-- the record that may stand in the journal in the meantime: the one that is kept, or after a fault the one that it is in doubt of then
abbrev pub flown : {T : Type 0} → Record → Option Record → Result T NotKept → Option Record
flown piece left (Ok done) = Some piece
flown piece left (Err failed) = left

-- a stop inside leaves the records, or these and the one in doubt before, or these and the one that may stand there in the meantime
abbrev pub IsLeftKeeping : Format → List Record → Option Record → Option Record → List ℕ → Type 0
IsLeftKeeping format pieces before flown image = StandsFor format pieces before image ⊎ StandsFor format pieces flown image

-- the calls of the disk
abbrev pub KeepCalls : {T : Type 0} → Bool → Result T NotKept → List Bool → Type 0
KeepCalls doubtful (Ok done) calls = TakenCalls doubtful false calls
KeepCalls doubtful (Err failed) calls = FailedCalls doubtful failed calls

-- what a journal holds once it is in no doubt, and after a fault of that
abbrev pub Settles : {D T : Type 0} {g : Ghosts D} → List Record → Option Record → Journal D g → Result T DiskFailed → Type 0
Settles pieces left journal (Ok done) = Holds pieces None journal
Settles pieces left journal (Err failed) = Holds pieces left journal

abbrev pub SettleCalls : {T : Type 0} → Bool → Result T DiskFailed → List Bool → Type 0
SettleCalls doubtful (Ok done) calls = calls ≡ mended doubtful
SettleCalls doubtful (Err failed) calls = (doubtful ≡ true) × FailsToMend calls
