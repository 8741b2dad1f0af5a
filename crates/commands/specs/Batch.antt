-- What a run of `batch` comes to.
use Rattle.std.specs.Prelude.{◌≡◌, ℕ, zero, suc, List, Result, Ok, Err, IfOk, ⊤}
use Rattle.desk.specs.Sessions.{HasCause, IsServed}
use Rattle.desk.specs.declared.sessions.SessionEnd.{SessionEnd}
use Rattle.desk.specs.declared.sessions.SessionEnd.TheVariants as sessions
use Rattle.devices.specs.declared.disks.Disk.{Ghosts}
use Rattle.history.specs.Events.{History}
use Rattle.journal.specs.declared.opening.OpenFault.{OpenFault}
use Rattle.commands.specs.Beside.{ServedBesideWorkers, ends_told}
use Rattle.commands.specs.Opening.{Carries, LeadsTo, RunsOver}
use Rattle.commands.specs.Worlds.{Stream, StreamsStay, Told, World}
use Rattle.commands.specs.declared.endings.Ending.{Ending}
use Rattle.commands.specs.declared.endings.Ending.TheVariants as endings

-- what the end of a session comes to
abbrev pub session_ending : SessionEnd → Ending
session_ending sessions.End = endings.Done
session_ending sessions.InputFault = endings.InputFault
session_ending sessions.OutputFault = endings.OutputFault
session_ending sessions.NoMemory = endings.NoMemory
session_ending (sessions.Malformed at) = endings.Malformed at
session_ending sessions.Long = endings.TooLong

-- a session between two streams
abbrev pub ServedBetween : Stream → Stream → Stream → Stream → SessionEnd → History → History → Type 0
ServedBetween input left output written end h last = IsServed h last end input.bytes left.bytes output.bytes written.bytes

-- a fault of a stream is told only where its count rose
abbrev pub SessionCause : Stream → Stream → Stream → Stream → SessionEnd → Type 0
SessionCause input left output written end = HasCause end input.faults left.faults output.faults written.faults

-- the run ended before the first request was read
abbrev pub IsUnserved : Result SessionEnd OpenFault → Type 0
IsUnserved (Ok sessions.NoMemory) = ⊤
IsUnserved (Ok end) = ⊥
IsUnserved (Err why) = ⊤

-- What was done by so many workers beside the session: by none of them the bytes written are the office's replies to the bytes read, over
-- the journal that was found, and what is left is the journal of the edits that were accepted.
abbrev pub RepliesOver : {D : Type 0} → Ghosts D → List ℕ → ℕ → Result SessionEnd OpenFault → Told D → Told D → Type 0
RepliesOver g name zero end before after =
    RunsOver g name (Carries g) (ServedBetween before.input after.input before.output after.output) end before.cabinet after.cabinet
RepliesOver g name (suc workers) end before after =
    RunsOver g name (LeadsTo g) (ServedBesideWorkers g (suc workers) (ends_told before.input before.output) (ends_told after.input after.output)) end
    before.cabinet after.cabinet

-- A run of `batch`: what was replied, and what is left. Where it ended before the first request nothing was read and nothing written.
pub record ServesInput {S K E C L P D : Type 0} (g : Ghosts D) (tell : World S K E C L P → Told D) (name : List ℕ) (workers : ℕ)
    (end : Result SessionEnd OpenFault) (before after : World S K E C L P) : Type 0 where
  pub over : RepliesOver g name workers end (tell before) (tell after)
  pub cause : IfOk end (SessionCause (tell before).input (tell after).input (tell before).output (tell after).output)
  pub unserved : IsUnserved end → StreamsStay before after
  pub doors : after.doors ≡ before.doors
  pub spawner : workers ≡ 0 → after.spawner ≡ before.spawner
