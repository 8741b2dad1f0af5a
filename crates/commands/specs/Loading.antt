-- What a run comes to that loads an input: the stations of a document, the unit values of a text, or the notes of a measurement.
use Rattle.std.specs.Prelude.{◌≡◌, ℕ, List, Result, IsErr, IfOk}
use Rattle.command_words.specs.Words.{ImportAsked, NotesAsked}
use Rattle.devices.specs.declared.disks.Disk.{Ghosts}
use Rattle.history.specs.Events.{History}
use Rattle.journal.specs.declared.opening.OpenFault.{OpenFault}
use Rattle.note_loading.specs.Endings as notes
use Rattle.note_loading.specs.Loading as noted
use Rattle.note_loading.specs.declared.endings.NotesEnd.{NotesEnd}
use Rattle.note_loading.specs.declared.endings.NotesEnd.TheVariants as note_ends
use Rattle.note_loading.specs.declared.visits.Visit.{Visit}
use Rattle.reading_loading.specs.Loading as readings
use Rattle.reading_loading.specs.Puts.{Order}
use Rattle.reading_loading.specs.declared.loading.ReadingsEnd.{ReadingsEnd}
use Rattle.reading_loading.specs.declared.loading.ReadingsEnd.TheVariants as reading_ends
use Rattle.station_loading.specs.Loading as stations
use Rattle.station_loading.specs.declared.loading.LoadingEnd.{LoadingEnd}
use Rattle.station_loading.specs.declared.loading.LoadingEnd.TheVariants as loadings
use Rattle.commands.specs.Opening.{Carries, RunsOver}
use Rattle.commands.specs.Worlds.{DoorsStay, Stream, StreamsStay, Told, World}
use Rattle.commands.specs.declared.endings.Ending.{Ending}
use Rattle.commands.specs.declared.endings.Ending.TheVariants as endings

-- what the end of a loading of stations comes to
abbrev pub loading_ending : LoadingEnd → Ending
loading_ending loadings.Done = endings.Done
loading_ending loadings.InputFault = endings.InputFault
loading_ending loadings.OutputFault = endings.OutputFault
loading_ending loadings.NoMemory = endings.NoMemory
loading_ending loadings.NotADocument = endings.NotADocument

-- of readings
abbrev pub readings_ending : ReadingsEnd → Ending
readings_ending reading_ends.Done = endings.Done
readings_ending reading_ends.InputFault = endings.InputFault
readings_ending reading_ends.OutputFault = endings.OutputFault
readings_ending reading_ends.TooLong = endings.UnitsTooLong
readings_ending (reading_ends.Refused fault) = endings.UnitsRefused fault
readings_ending reading_ends.NoMemory = endings.NoMemory

-- and of notes
abbrev pub notes_ending : NotesEnd → Ending
notes_ending note_ends.Done = endings.Done
notes_ending note_ends.InputFault = endings.InputFault
notes_ending note_ends.OutputFault = endings.OutputFault
notes_ending note_ends.TooLong = endings.NotesTooLong
notes_ending (note_ends.Refused fault) = endings.NotesRefused fault
notes_ending note_ends.NoMemory = endings.NoMemory

-- the readings that `import` asks, and the visit of which `notes` tells
abbrev pub order_of : ImportAsked → Order
order_of asked = record { site = asked.site; column = asked.column; by = asked.by; prefix = asked.reference }

abbrev pub visit_of : NotesAsked → Visit
visit_of asked =
    record {
      by = asked.by;
      reference = asked.reference;
      site = asked.site;
      number = asked.number;
      at = asked.at;
      gage = asked.gage;
      grade = asked.grade;
    }

-- what was loaded between two streams, from one history to another, at this end
abbrev pub Loaded : Type 0 → Type 1
Loaded End = Stream → Stream → Stream → Stream → End → History → History → Type 0

abbrev pub StationsLoaded : Loaded LoadingEnd
StationsLoaded input left output written end h last = stations.IsLoaded h last end input.bytes left.bytes output.bytes written.bytes

abbrev pub ReadingsLoaded : ImportAsked → Loaded ReadingsEnd
ReadingsLoaded asked input left output written end h last =
    readings.IsLoaded (order_of asked) h last end input.bytes left.bytes output.bytes written.bytes

abbrev pub NotesLoaded : NotesAsked → Loaded NotesEnd
NotesLoaded asked input left output written end h last =
    noted.IsLoaded (visit_of asked) h last end input.bytes left.bytes output.bytes written.bytes

-- a fault of a stream is told only where its count rose
abbrev pub Caused : Type 0 → Type 1
Caused End = End → ℕ → ℕ → ℕ → ℕ → Type 0

abbrev pub CausedBetween : {End : Type 0} → Caused End → Stream → Stream → Stream → Stream → End → Type 0
CausedBetween Cause input left output written end = Cause end input.faults left.faults output.faults written.faults

-- A run of such a command, over the journal under a name: the office was asked what the input states, and the line of each edit was
-- written. Where the journal was not opened nothing was read, and where nothing was asked nothing was written.
pub record LoadsInput {S K E C L P D End : Type 0} (g : Ghosts D) (tell : World S K E C L P → Told D) (name : List ℕ)
    (Loads : Loaded End) (Cause : Caused End) (IsUnasked : End → Type 0)
    (end : Result End OpenFault) (before after : World S K E C L P) : Type 0 where
  pub over : RunsOver g name (Carries g) (Loads (tell before).input (tell after).input (tell before).output (tell after).output) end
      (tell before).cabinet (tell after).cabinet
  pub cause : IfOk end (CausedBetween Cause (tell before).input (tell after).input (tell before).output (tell after).output)
  pub unopened : IsErr end → StreamsStay before after
  pub unasked : IfOk end (λ end. IsUnasked end → after.output ≡ before.output)
  pub doors : DoorsStay before after

module _ {S K E C L P D : Type 0} (g : Ghosts D) (tell : World S K E C L P → Told D) where
  -- a run of `stations`
  abbrev pub LoadsStations : List ℕ → Result LoadingEnd OpenFault → World S K E C L P → World S K E C L P → Type 0
  LoadsStations name end before after = LoadsInput g tell name StationsLoaded stations.LoadingCause stations.IsUnasked end before after

  -- a run of `import`
  abbrev pub LoadsReadings : ImportAsked → Result ReadingsEnd OpenFault → World S K E C L P → World S K E C L P → Type 0
  LoadsReadings asked end before after =
      LoadsInput g tell asked.journal (ReadingsLoaded asked) readings.LoadingCause readings.IsUnasked end before after

  -- a run of `notes`
  abbrev pub LoadsNotes : NotesAsked → Result NotesEnd OpenFault → World S K E C L P → World S K E C L P → Type 0
  LoadsNotes asked end before after =
      LoadsInput g tell asked.journal (NotesLoaded asked) notes.LoadingCause notes.IsUnasked end before after
