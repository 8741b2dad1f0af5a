-- What the reading of a journal to its end answers.
use Rattle.std.specs.Prelude.{ℕ, ◌+◌, ◌≤◌, List, length, Option, IfSome, ⊤}
use Rattle.devices.specs.Faults.{Rose}
use Rattle.journal.specs.JournalBytes.{HasAnyHeader, IsDamagedAt, IsJournalOf, front}
use Rattle.journal.specs.declared.opening.OpenFault.{OpenFault}
use Rattle.journal.specs.declared.opening.OpenFault.TheVariants.{Fault, NotAJournal, Damaged, NoMemory}
use Rattle.records.specs.Sheets.{Record}
use Rattle.records.specs.declared.formats.Format.{Format}
use Rattle.records.specs.declared.formats.Format.TheVariants.{Second}

-- a file is a journal of these records, in either format
abbrev pub StandsForAll : List Record → List ℕ → Type 0
StandsForAll records bytes = (format : Format) × IsJournalOf format records bytes

-- why a journal is not read to its end, over a disk with this content
abbrev pub IsUnread : Option (List ℕ) → OpenFault → ℕ → ℕ → Type 0
IsUnread content Fault before now = Rose before now
IsUnread content NotAJournal before now = IfSome content (λ bytes. ¬ HasAnyHeader bytes)
IsUnread content (Damaged at) before now = IfSome content (λ bytes. (format : Format) × IsDamagedAt format at bytes)
IsUnread content NoMemory before now = ⊤

-- the journal of these records in the second format, the closed gate behind the last one counted, has at most so many bytes
abbrev pub HasRoom : ℕ → List Record → Type 0
HasRoom limit records = length (front Second records) + 1 ≤ limit
