-- Workers that are started, and what becomes of them.
use Rattle.std.specs.Prelude.{◌≡◌, ℕ, ◌+◌, ◌≤◌, List, [], ◌++◌, length, All, Some, vec_len, vec_capacity}
use Rattle.std.specs.List.{concat}
use mathlib.Core.List.{IsPrefix}
use Rattle.devices.specs.declared.disks.Disk.{Ghosts}
use Rattle.devices.specs.declared.spawners.Task.{Task}
use Rattle.serving.specs.declared.crews.Crew.{Crew}
use Rattle.serving.specs.declared.crews.Employed.{Employed}
use Rattle.serving.specs.declared.crews.Outcome.{Outcome}
use Rattle.serving.specs.declared.crews.Outcome.TheVariants.{Ended, Unstarted}
use Rattle.serving.specs.declared.crews.Room.{Room}
use Rattle.shared_office.specs.Holdings.{Holding, Follow, last_of, places_of}
use Rattle.shared_office.specs.Passing.{IsOf, Lock, PassTo}
use Rattle.shared_office.specs.Working.{AddsADay, IsTask}
use Rattle.shared_office.specs.declared.entries.Entry.{Entry}
use Rattle.turnstile.specs.Passes.{seen, share, tally}
use Rattle.workers.specs.Work.{EndsBy, IsWork, count_told}
use Rattle.workers.specs.declared.workers.WorkerEnd.{WorkerEnd}

module _ {D : Type 0} {g : Ghosts D} where
  -- a worker that was started once this much was seen worked in this list: it ended so, its holdings lie behind what was seen and in the
  -- list, up to the one by which it ended, each is a claim, a look or a publication, and these are the places of what they added
  pub record IsWorkIn (lock : Lock D g) (start list : List Entry) (places : List ℕ) : Type 0 where
    pub end : WorkerEnd
    pub holdings : List (Holding (List Entry))
    pub last : Holding (List Entry)
    pub follow : Follow IsPrefix start holdings list
    pub tasks : All (IsTask lock) holdings
    pub adds : All AddsADay holdings
    pub last_is : last_of holdings ≡ Some last
    pub ends : EndsBy lock end last
    pub count_is : count_told end ≡ length places
    pub places_are : places ≡ places_of length holdings

  -- a pass that was split off once this much was seen
  pub record IsFresh (start : List Entry) (pass : PassTo D g) : Type 0 where
    pub begins : IsPrefix start (seen pass)
    pub share_is : share pass ≡ 1
    pub tally_is : tally pass ≡ []

  -- one pass more was joined, with which a worker had worked
  pub record IsJoined (lock : Lock D g) (start : List Entry) (old new : PassTo D g) : Type 0 where
    pub places : List ℕ
    pub begins : IsPrefix (seen old) (seen new)
    pub share_is : share new ≡ share old + 1
    pub tally_is : tally new ≡ tally old ++ places
    pub work : IsWorkIn lock start (seen new) places

  -- so many were
  pub record AreJoined (lock : Lock D g) (start : List Entry) (old new : PassTo D g) (count : ℕ) : Type 0 where
    pub workers : List (List ℕ)
    pub count_is : length workers ≡ count
    pub begins : IsPrefix (seen old) (seen new)
    pub share_is : share new ≡ share old + count
    pub tally_is : tally new ≡ tally old ++ concat workers
    pub work : All (IsWorkIn lock start (seen new)) workers

  module _ {G : Type 0} where
    -- what came of a worker with this pass
    abbrev pub IsOutcome : Lock D g → PassTo D g → Outcome D G g → Type 0
    IsOutcome lock given (Ended pass end) = IsOf lock pass × IsWork lock given pass end
    IsOutcome lock given (Unstarted pass gate) = IsOf lock pass × (pass ≡ given)

    -- what came of a worker whose pass is still to be joined
    abbrev pub IsDue : Lock D g → List Entry → Outcome D G g → Type 0
    IsDue lock start outcome = (given : PassTo D g) × IsFresh start given × IsOutcome lock given outcome

    -- a worker that runs in a thread
    abbrev pub IsEmployed : Lock D g → List Entry → Task (Outcome D G g) (Employed D g) → Type 0
    IsEmployed lock start task = (task.running.promise.lock.value ≡ lock) × IsFresh start task.running.promise.given.value

    -- room for so many workers
    pub record IsRoom (lock : Lock D g) (count : ℕ) (room : Room D G g) : Type 0 where
      pub hands : (vec_len room.hands ≡ count) × All (λ h. h.lock.value ≡ lock) room.hands.items
      pub tasks : (vec_len room.tasks ≡ 0) × (count ≤ vec_capacity room.tasks)
      pub kept : (vec_len room.kept ≡ 0) × (count ≤ vec_capacity room.kept)

    -- what was seen when workers were started
    abbrev pub seen_before : Crew D G g → List Entry
    seen_before crew = seen crew.begun.value

    -- so many workers that run in threads or were handed back
    pub record IsCrew (lock : Lock D g) (count : ℕ) (crew : Crew D G g) : Type 0 where
      pub count_is : vec_len crew.tasks + vec_len crew.kept ≡ count
      pub tasks : All (IsEmployed lock (seen_before crew)) crew.tasks.items
      pub kept : All (IsDue lock (seen_before crew)) crew.kept.items
