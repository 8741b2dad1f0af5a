-- A session over an input and an output beside workers, behind a lock.
use Rattle.std.specs.Prelude.{◌≡◌, ◌⊎◌, ℕ, ◌-◌, true, List, ◌++◌, length, All}
use Rattle.std.specs.List.{concat}
use mathlib.Core.List.{IsPrefix}
use Rattle.desk.specs.Serving.{EndsIn}
use Rattle.desk.specs.declared.sessions.SessionEnd.{SessionEnd}
use Rattle.desk.specs.declared.sessions.SessionEnd.TheVariants as sessions
use Rattle.devices.specs.Doors.{Ends}
use Rattle.devices.specs.declared.disks.Disk.{Ghosts}
use Rattle.history.specs.After.{go_on}
use Rattle.history.specs.Events.{Event, History}
use Rattle.serving.specs.Crews.{IsWorkIn}
use Rattle.shared_office.specs.Entries.{before_ending, fixed_part, has_ended, history_of, with_ending}
use Rattle.shared_office.specs.Holdings.{Follow, Holding, places_of}
use Rattle.shared_office.specs.Passing.{Lock, fixed_in}
use Rattle.shared_office.specs.declared.entries.Entry.{Entry}
use Rattle.turnstile.specs.Places.{IsEachOnce, places}
use Rattle.commands.specs.Sharing.{begun}
use Rattle.commands.specs.Worlds.{Stream}

-- what two streams tell as the ends of a connection
abbrev pub ends_told : Stream → Stream → Ends
ends_told input output =
    record { left = input.bytes; input_faults = input.faults; written = output.bytes; output_faults = output.faults }

module _ {D : Type 0} {g : Ghosts D} where
  -- A session ended so beside so many workers, between these lists of a lock: its holdings, in which the replies were made, lie in what was
  -- there when the end was told, and each worker's lie in the last list; both lie behind the first one. Of the places that were added each is
  -- of the session, of the ending or of a worker.
  pub record IsBeside (lock : Lock D g) (count : ℕ) (before after : List Entry) (added : List ℕ) (came went : Ends) (end : SessionEnd) : Type 0 where
    pub holdings : List (Holding (List Entry))
    pub ends_in : EndsIn (fixed_in lock) came went end holdings
    pub told_at : List Entry
    pub begins : IsPrefix before told_at
    pub follow : Follow IsPrefix before holdings told_at
    pub grows : IsPrefix (with_ending told_at) after
    pub workers : List (List ℕ)
    pub count_is : length workers ≡ count
    pub work : All (IsWorkIn lock before after) workers
    pub added_is : added ≡ (places_of length holdings ++ places (length told_at) (length (with_ending told_at) - length told_at)) ++ concat workers

-- The same, from one history to another, which are read off the lists. Each place that the list has grown by stands once among those, and
-- what was there when the end was told is all that stands before the ending.
pub record WorksBeside {D : Type 0} (g : Ghosts D) (count : ℕ) (came went : Ends) (end : SessionEnd) (h last : History) : Type 0 where
  pub lock : Lock D g
  pub fixed_is : fixed_in lock ≡ fixed_part h
  pub list : List Entry
  pub last_is : last ≡ history_of (fixed_part h) list
  pub added : List ℕ
  pub each_once : IsEachOnce (length h.events) (length list) added
  pub beside : IsBeside lock count (begun h) list added came went end
  pub ended : has_ended list ≡ true
  pub front : before_ending list ≡ beside.told_at

-- there was no memory to begin, and nothing has happened
abbrev pub IsUnbegun : SessionEnd → History → History → Type 0
IsUnbegun end h last = (end ≡ sessions.NoMemory) × (last ≡ h)

-- A session beside so many workers, by its end, from one history to another.
pub record ServedBesideWorkers {D : Type 0} (g : Ghosts D) (count : ℕ) (came went : Ends) (end : SessionEnd) (h last : History) : Type 0 where
  pub goes_on : (since : List Event) × (last ≡ go_on h since)
  pub worked : WorksBeside g count came went end h last ⊎ IsUnbegun end h last
