-- What passes in the office while messages are replied to.
use Rattle.std.specs.Prelude.{◌≡◌, ℕ, ◌+◌, ◌-◌, ◌^◌, ◌≤◌, min, List, IsSome, is_some}
use Rattle.devices.specs.declared.disks.Disk.{Ghosts}
use Rattle.history.specs.After.{go_on}
use Rattle.history.specs.Events.{Event, History}
use Rattle.journal.specs.Moments.{LeavesOnly}
use Rattle.office.specs.Counting.{fault_count}
use Rattle.office.specs.Stops.{IsLeftBetween}

-- the count of faults rose by so many, or stands at its type's end
abbrev pub RoseBy : ℕ → ℕ → ℕ → Type 0
RoseBy n before now = min (before + n) (2 ^ 64 - 1) ≤ now

-- The history has gone on, and the faults that joined it have their causes. Where the disk tells what it has, a stop at any moment left
-- the journal of the edits that were accepted up to some point on the way, or of these and one more.
pub record Passes {D : Type 0} (g : Ghosts D) (h after : History) (old new : D) : Type 0 where
  pub since : List Event
  pub goes_on : after ≡ go_on h since
  pub causes : RoseBy (fault_count since) (g.faults old) (g.faults new)
  pub leaves : IsSome (g.content old) → LeavesOnly g old new (IsLeftBetween h after)
  pub told : is_some (g.content new) ≡ is_some (g.content old)
