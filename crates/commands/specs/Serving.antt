-- What a run of `serve` comes to.
use Rattle.std.specs.Prelude.{◌≡◌, ◌⊎◌, ℕ, false, List, [], length, Result, Ok, IsErr}
use Rattle.devices.specs.Doors.{Connections}
use Rattle.devices.specs.declared.disks.Disk.{Ghosts}
use Rattle.history.specs.After.{go_on}
use Rattle.history.specs.Events.{Event, History}
use Rattle.journal.specs.declared.opening.OpenFault.{OpenFault}
use Rattle.serving.specs.Failing.{failed_replies}
use Rattle.serving.specs.Serving.{IsServeEnd, ServedBeside}
use Rattle.serving.specs.declared.whole.ServeEnd.{ServeEnd}
use Rattle.serving.specs.declared.whole.ServeEnd.TheVariants as ends
use Rattle.shared_office.specs.Entries.{before_ending, fixed_part, history_of}
use Rattle.shared_office.specs.Passing.{Lock, fixed_in}
use Rattle.shared_office.specs.declared.entries.Entry.{Entry}
use Rattle.turnstile.specs.Places.{IsEachOnce}
use Rattle.commands.specs.Opening.{LeadsTo, RunsOver}
use Rattle.commands.specs.Sharing.{begun}
use Rattle.commands.specs.Worlds.{DoorsStay, Doorway, StreamsStay, Told, World}
use Rattle.commands.specs.declared.endings.Ending.{Ending}
use Rattle.commands.specs.declared.endings.Ending.TheVariants as endings

-- what the end of serving comes to
abbrev pub serving_ending : ServeEnd → Ending
serving_ending ends.End = endings.Done
serving_ending ends.DoorFault = endings.DoorFault
serving_ending ends.NoMemory = endings.NoMemory

-- Connections were served and so many workers worked beside each other, from the events of one history to those of another, which are read
-- off the list of the lock. Each place that the list has grown by stands once among those of the connections, of the workers and of the
-- ending.
pub record AreServedBeside {D : Type 0} (g : Ghosts D) (workers : ℕ) (told : Connections) (h last : History) : Type 0 where
  pub lock : Lock D g
  pub fixed_is : fixed_in lock ≡ fixed_part h
  pub list : List Entry
  pub last_is : last ≡ history_of (fixed_part h) list
  pub places : List ℕ
  pub each_once : IsEachOnce (length h.events) (length list) places
  pub beside : ServedBeside lock workers (begun h) list [] places told.given told.back

-- how many replies of all its connections are 503
abbrev pub failed_beside : {D : Type 0} {g : Ghosts D} {workers : ℕ} {told : Connections} {h last : History} → AreServedBeside g workers told h last → ℕ
failed_beside {D} {g} {workers} {told} {h} {last} served =
    failed_replies (fixed_in served.lock) (length (begun h)) (before_ending served.list) told.back 1 told.given served.beside.connections
    served.beside.each

-- nobody was let in, and nothing has happened
abbrev pub NobodyWasServed : Connections → History → History → Type 0
NobodyWasServed told h last = (told.given ≡ []) × (last ≡ h)

-- Nobody was let in, since there was no memory to begin, or the port could not be had: then the doors listen as they did before.
abbrev pub IsUnserved : ServeEnd → Doorway → Doorway → History → History → Type 0
IsUnserved ends.End before after h last = ⊥
IsUnserved ends.DoorFault before after h last = NobodyWasServed after.told h last × (after.listens ≡ before.listens)
IsUnserved ends.NoMemory before after h last = NobodyWasServed after.told h last

-- What was done for the connections beside so many workers at an end of serving, from one history to another: `End` exactly where as many
-- were given as were asked for, and each that was given was served; where there was no memory to begin, or the port could not be had, and only
-- there, nobody was let in and nothing has happened. So it is wherever the doors do not listen then.
pub record ServesBetween {D : Type 0} (g : Ghosts D) (workers connections : ℕ) (before after : Doorway) (end : ServeEnd) (h last : History) : Type 0 where
  pub ended : IsServeEnd end connections after.told.given before.faults after.faults
  pub goes_on : (since : List Event) × (last ≡ go_on h since)
  pub served : AreServedBeside g workers after.told h last ⊎ IsUnserved end before after h last
  pub unserved : end ≡ ends.NoMemory → NobodyWasServed after.told h last
  pub unlistened : after.listens ≡ false → NobodyWasServed after.told h last

-- A run of `serve`: the connections that were given and how each was served, over the journal that was found, and what is left is the
-- journal of the edits that were accepted. The input and the output are not touched, nor are the doors where no journal was opened.
pub record ServesConnections {S K E C L P D : Type 0} (g : Ghosts D) (tell : World S K E C L P → Told D) (name : List ℕ)
    (workers connections : ℕ) (end : Result ServeEnd OpenFault) (before after : World S K E C L P) : Type 0 where
  pub over : RunsOver g name (LeadsTo g) (ServesBetween g workers connections (tell before).doors (tell after).doors) end
      (tell before).cabinet (tell after).cabinet
  pub unopened : IsErr end → DoorsStay before after
  pub unserved : end ≡ Ok ends.NoMemory → after.spawner ≡ before.spawner
  pub streams : StreamsStay before after
