-- How runs end, and the status and the line of each ending.
use Rattle.std.specs.Prelude.{◌≡◌, ◌⊎◌, ℕ, List, [], ◌∷◌, ◌++◌, codes, decimal, IfSome, IsSomeAnd}
use Rattle.devices.specs.Faults.{Rose}
use Rattle.devices.specs.Sinks.{IsCutShort}
use Rattle.midsection.specs.Reading as midsection
use Rattle.rdb_records.specs.Units as units
use Rattle.rdb_records.specs.declared.faults.UnitFault.{UnitFault}
use Rattle.rdb_records.specs.declared.faults.UnitFault.TheVariants as unit_faults
use Rattle.commands.specs.Worlds.{Stream}
use Rattle.commands.specs.declared.endings.Ending.{Ending}
use Rattle.commands.specs.declared.endings.Ending.TheVariants.{Done, Usage, InputFault, OutputFault, DiskFault, NotAJournal, Damaged, NoMemory, DoorFault, Exists, Malformed, NotADocument, TooLong, UnitsRefused, UnitsTooLong, NotesRefused, NotesTooLong, Differs, JournalFull}

-- the status of an ending
abbrev pub status_of : Ending → ℕ
status_of Done = 0
status_of Usage = 1
status_of InputFault = 2
status_of OutputFault = 3
status_of DiskFault = 4
status_of NotAJournal = 5
status_of (Damaged at) = 5
status_of NoMemory = 6
status_of DoorFault = 7
status_of Exists = 8
status_of (Malformed at) = 9
status_of NotADocument = 9
status_of TooLong = 10
status_of (Differs number) = 11
status_of JournalFull = 12
status_of (UnitsRefused fault) = 13
status_of UnitsTooLong = 13
status_of (NotesRefused fault) = 14
status_of NotesTooLong = 14

-- a line for the sink of faults
abbrev pub line : List ℕ → List ℕ
line text = codes "streamoffice: " ++ text ++ 10 ∷ []

-- the code of what makes a text no unit values
abbrev pub unit_code : UnitFault → List ℕ
unit_code unit_faults.NoNames = codes "NoNames"
unit_code (unit_faults.NoColumn at) = codes "NoColumn"
unit_code (unit_faults.Site at) = codes "Site"
unit_code (unit_faults.Zone at) = codes "Zone"
unit_code (unit_faults.Instant at) = codes "Instant"
unit_code (unit_faults.Order at) = codes "Order"
unit_code (unit_faults.Range at) = codes "Range"
unit_code unit_faults.NoMemory = codes "NoMemory"

-- what an input is refused for, by its code, and where
abbrev pub rdb_text : List ℕ → ℕ → List ℕ
rdb_text code at = codes "rdb " ++ code ++ codes " at line " ++ decimal at

abbrev pub notes_text : List ℕ → ℕ → List ℕ
notes_text code at = codes "notes " ++ code ++ codes " at " ++ decimal at

-- the line of an ending
abbrev pub line_of : Ending → List ℕ
line_of Done = []
line_of Usage = line (codes "usage: init, batch, serve, stations or trial")
line_of InputFault = line (codes "input fault")
line_of OutputFault = line (codes "output fault")
line_of DiskFault = line (codes "disk fault")
line_of NotAJournal = line (codes "not a journal")
line_of (Damaged at) = line (codes "damaged at " ++ decimal at)
line_of NoMemory = line (codes "out of memory")
line_of DoorFault = line (codes "door fault")
line_of Exists = line (codes "journal exists")
line_of (Malformed at) = line (codes "malformed at " ++ decimal at)
line_of NotADocument = line (codes "not a station document")
line_of TooLong = line (codes "input too long")
line_of (UnitsRefused fault) = line (rdb_text (unit_code fault) (units.line_of fault))
line_of UnitsTooLong = line (rdb_text (codes "Long") 0)
line_of (NotesRefused fault) = line (notes_text (midsection.code_of fault) (midsection.record_of fault))
line_of NotesTooLong = line (notes_text (codes "Long") 0)
line_of (Differs number) = line (codes "journals differ at " ++ decimal number)
line_of JournalFull = line (codes "journal full")

-- the sink of faults has the line at its end, or where it failed a front of it
abbrev pub IsReported : List ℕ → Stream → Stream → Type 0
IsReported line before after =
    IfSome before.bytes (λ b. IsSomeAnd after.bytes (λ a. (part : List ℕ) × (a ≡ b ++ part)
    × ((part ≡ line) ⊎ (IsCutShort part line × Rose before.faults after.faults))))
