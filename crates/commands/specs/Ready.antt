-- Where a run cannot fail, but for want of memory: a row a command.
use Rattle.std.specs.Prelude.{◌≡◌, ◌≢◌, ◌⊎◌, ℕ, ◌<◌, ◌≤◌, Err, List, length, Option, IsSome, IsSomeAnd, ⊤}
use Rattle.command_words.specs.Words.{Asked, Init, Batch, Serve, Stations, Trial, Import, Daily, Water, Notes, Migrate, ImportAsked}
use Rattle.devices.specs.Cabinets.{Place}
use Rattle.devices.specs.Faults.{Rose}
use Rattle.devices.specs.declared.disks.Disk.{Ghosts}
use Rattle.edits.specs.declared.content.Edit.{Edit}
use Rattle.journal.specs.JournalBytes.{HasAnyHeader, IsTaken, IsForeign}
use Rattle.midsection.specs.Reading.{notes_of}
use Rattle.midsection.specs.declared.faults.NotesFault.{NotesFault}
use Rattle.migration.specs.Copying.{MayBegin}
use Rattle.migration.specs.Reading.{StandsForAll, HasRoom as HasRecordRoom}
use Rattle.note_loading.specs.Loading.{most_bytes}
use Rattle.office.specs.Openings.{IsDamagedFor}
use Rattle.office_inputs.specs.Usual.{usual}
use Rattle.rdb_records.specs.Units.{IsRefused}
use Rattle.rdb_records.specs.declared.faults.UnitFault.{UnitFault}
use Rattle.records.specs.Sheets.{Record}
use Rattle.reading_loading.specs.declared.limits.TheConstants.{MOST_BYTES}
use Rattle.station_documents.specs.Documents.{StatesStations}
use Rattle.wire.specs.Messages.{AreMessages, IsMalformed}
use Rattle.wire.specs.declared.limits.TheConstants.{STREAM_BYTES}
use Rattle.wire.specs.declared.messages.Message.{Message}
use Rattle.commands.specs.Places.{HasKept, bytes_found}
use Rattle.commands.specs.Worlds.{Told, World}

-- an input of fewer bytes than may be taken of a stream, in which no message is malformed
pub record IsWellFormed (input : List ℕ) : Type 0 where
  pub short : length input < STREAM_BYTES
  pub whole : (messages : List Message) (rest : List ℕ) → AreMessages input messages rest → ¬ (IsMalformed rest)

-- the input is a document of stations
abbrev pub IsDocument : List ℕ → Type 0
IsDocument input = (edits : List Edit) × StatesStations input edits

-- the input is not too long for unit values of this site and column, and not refused
pub record IsUnits (asked : ImportAsked) (input : List ℕ) : Type 0 where
  pub short : length input ≤ MOST_BYTES
  pub unrefused : (fault : UnitFault) → ¬ (IsRefused asked.site asked.column input fault)

-- it is not too long for the notes of a measurement, and not refused
pub record IsNotes (input : List ℕ) : Type 0 where
  pub short : length input ≤ most_bytes
  pub unrefused : (fault : NotesFault) → ¬ (notes_of input ≡ Err fault)

-- a journal that is not damaged: at no gate a record is missing, or stands that is not accepted behind those before it
pub record IsSound (bytes : List ℕ) : Type 0 where
  pub header : HasAnyHeader bytes
  pub whole : (at : ℕ) → ¬ (IsDamagedFor usual at bytes)

module _ {D : Type 0} (g : Ghosts D) where
  -- the name holds a journal that is not damaged
  abbrev pub HasSound : List ℕ → Option (List ℕ → Place D) → Type 0
  HasSound name places = IsSomeAnd places (λ p. HasKept (λ disk. IsSomeAnd (g.content disk) IsSound) (p name))

  -- under the name is what a journal is made of: nothing, or bytes that are no journal and not too many for a stopped making
  abbrev pub HasRoom : List ℕ → Option (List ℕ → Place D) → Type 0
  HasRoom name places =
      IsSomeAnd places (λ p. IsSomeAnd (bytes_found g (p name)) (λ bytes. (¬ IsTaken bytes) × (¬ IsForeign bytes)))

  -- of two names the one holds a journal of records that fit into one of the second format, and under the other is nothing, or what a copy of
  -- them may begin on
  abbrev pub CanBeCopied : List ℕ → List ℕ → Option (List ℕ → Place D) → Type 0
  CanBeCopied from to places =
      (from ≢ to) × IsSomeAnd places (λ p. (records : List Record) × HasKept (λ disk. IsSomeAnd (g.content disk) (StandsForAll records)) (p from)
      × HasRecordRoom usual.journal_bytes records × IsSomeAnd (bytes_found g (p to)) (MayBegin records))

  -- what each command needs to find
  abbrev pub IsReady : Asked → Told D → Type 0
  IsReady (Init name) found = HasRoom name found.cabinet.places
  IsReady (Batch name workers) found =
      HasSound name found.cabinet.places × (IsSomeAnd found.input.bytes IsWellFormed × IsSome found.output.bytes)
  IsReady (Serve name port workers connections) found = HasSound name found.cabinet.places
  IsReady (Stations name) found = HasSound name found.cabinet.places × IsSomeAnd found.input.bytes IsDocument
  IsReady (Trial number) found = ⊤
  IsReady (Import asked) found = HasSound asked.journal found.cabinet.places × IsSomeAnd found.input.bytes (IsUnits asked)
  IsReady (Daily asked) found = HasSound asked.journal found.cabinet.places
  IsReady (Water asked) found = HasSound asked.journal found.cabinet.places
  IsReady (Notes asked) found = HasSound asked.journal found.cabinet.places × IsSomeAnd found.input.bytes IsNotes
  IsReady (Migrate from to) found = CanBeCopied from to found.cabinet.places

module _ {D : Type 0} (before after : Told D) where
  -- no fault of the input or of the output was counted, and none of the cabinet or of its disks
  abbrev pub StreamsAreWell : Type 0
  StreamsAreWell = (¬ (Rose before.input.faults after.input.faults)) × (¬ (Rose before.output.faults after.output.faults))

  abbrev pub CabinetIsWell : Type 0
  CabinetIsWell = ¬ (Rose before.cabinet.faults after.cabinet.faults)

  abbrev pub DoorsAreWell : Type 0
  DoorsAreWell = ¬ (Rose before.doors.faults after.doors.faults)

  abbrev pub OutputIsWell : Type 0
  OutputIsWell = ¬ (Rose before.output.faults after.output.faults)

  -- no fault of an object that the command uses
  abbrev pub IsWell : Asked → Type 0
  IsWell (Init name) = CabinetIsWell
  IsWell (Batch name workers) = StreamsAreWell × CabinetIsWell
  IsWell (Serve name port workers connections) = CabinetIsWell × DoorsAreWell
  IsWell (Stations name) = StreamsAreWell × CabinetIsWell
  IsWell (Trial number) = OutputIsWell
  IsWell (Import asked) = StreamsAreWell × CabinetIsWell
  IsWell (Daily asked) = OutputIsWell × CabinetIsWell
  IsWell (Water asked) = OutputIsWell × CabinetIsWell
  IsWell (Notes asked) = StreamsAreWell × CabinetIsWell
  IsWell (Migrate from to) = CabinetIsWell

-- the command is done, or there was no memory
abbrev pub IsDone : ℕ → Type 0
IsDone status = (status ≡ 0) ⊎ (status ≡ 6)

-- a run that found all that it needs, and met no fault, is done, or there was no memory
abbrev pub Completes : {S K E C L P D : Type 0} → Ghosts D → (World S K E C L P → Told D) → Asked → ℕ → World S K E C L P → World S K E C L P
    → Type 0
Completes g tell asked status before after = IsReady g asked (tell before) → IsWell (tell before) (tell after) asked → IsDone status
