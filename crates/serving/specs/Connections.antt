-- What becomes of a connection.
use Rattle.std.specs.Prelude.{◌≡◌, List, [], Result, Ok, Err}
use mathlib.Core.List.{IsPrefix}
use Rattle.desk.specs.Serving.{IsSession}
use Rattle.desk.specs.declared.sessions.SessionEnd.{SessionEnd}
use Rattle.devices.specs.Doors.{Ends}
use Rattle.devices.specs.declared.disks.Disk.{Ghosts}
use Rattle.devices.specs.declared.spawners.Task.{Task}
use Rattle.shared_office.specs.Passing.{IsOf, Lock, PassTo, fixed_in}
use Rattle.shared_office.specs.declared.entries.Entry.{Entry}
use Rattle.turnstile.specs.Passes.{seen, share, tally}

module _ {D : Type 0} {g : Ghosts D} where
  -- a connection was served in a session of this pass, between what its ends told when they were given and when it was ended
  pub record IsConnection (lock : Lock D g) (given : PassTo D g) (came : Ends) (back : PassTo D g) (went : Ends) : Type 0 where
    pub pass : IsOf lock back
    pub end : SessionEnd
    pub session : IsSession (fixed_in lock) given back end came went

  -- a pass that was split off, once this much was seen
  pub record IsSplitOff (start : List Entry) (pass : PassTo D g) : Type 0 where
    pub begins : IsPrefix start (seen pass)
    pub share_is : share pass ≡ 1
    pub tally_is : tally pass ≡ []

  module _ {B P : Type 0} (lock_of : P → Lock D g) (given_of : P → PassTo D g) (came_of : P → Ends) (ends : B → Ends) where
    -- a connection that came with these ends: it is served in a thread, under its promise, or it was served at once
    abbrev pub IsTasked : Lock D g → List Entry → Ends → Result (Task (PassTo D g × B) P) (PassTo D g × B) → Type 0
    IsTasked lock start came (Ok task) =
        (lock_of task.running.promise ≡ lock) × (came_of task.running.promise ≡ came) × IsSplitOff start (given_of task.running.promise)
    IsTasked lock start came (Err done) = (given : PassTo D g) × IsSplitOff start given × IsConnection lock given came done.0 (ends done.1)
