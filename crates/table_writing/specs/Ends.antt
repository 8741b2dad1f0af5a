-- How the writing of a table ends.
use Rattle.std.specs.Prelude.{◌≡◌, ℕ, ◌≤◌, true, false, List, Option, ⊤}
use Rattle.devices.specs.Faults.{Rose}
use Rattle.devices.specs.Sinks.{AreWritten}
use Rattle.history.specs.After.{after_turns}
use Rattle.history.specs.Events.{History}
use Rattle.table_writing.specs.declared.writing.TableEnd.{TableEnd}
use Rattle.table_writing.specs.declared.writing.TableEnd.TheVariants.{Done, OutputFault, NoMemory}

-- of so many turns some were made
abbrev pub IsTurnedPartly : ℕ → History → History → Type 0
IsTurnedPartly turns h after = (made : ℕ) × (made ≤ turns) × (after ≡ after_turns made h)

-- The turns were made, and the text that what had happened then gives was written, or where the sink failed a front of it that is not
-- all. Where there was no memory some of the turns were made, and nothing was written.
abbrev pub IsWrittenBehind : TableEnd → ℕ → (History → List ℕ) → History → History → Option (List ℕ) → Option (List ℕ) → Type 0
IsWrittenBehind Done turns text h after before now = (after ≡ after_turns turns h) × AreWritten before (text after) now true
IsWrittenBehind OutputFault turns text h after before now = (after ≡ after_turns turns h) × AreWritten before (text after) now false
IsWrittenBehind NoMemory turns text h after before now = IsTurnedPartly turns h after × (now ≡ before)

-- a whole text was written, or a front of it
abbrev pub IsPut : TableEnd → List ℕ → Option (List ℕ) → Option (List ℕ) → Type 0
IsPut Done text before now = AreWritten before text now true
IsPut OutputFault text before now = AreWritten before text now false
IsPut NoMemory text before now = ⊥

-- a fault is told only where the sink's count rose
abbrev pub TableCause : TableEnd → ℕ → ℕ → Type 0
TableCause Done before now = ⊤
TableCause OutputFault before now = Rose before now
TableCause NoMemory before now = ⊤
