-- What a worker does in its holdings.
use Rattle.std.specs.Prelude.{◌≡◌, ◌⊎◌, true, List, [], ◌∷◌, Result, IfOk}
use Rattle.devices.specs.declared.disks.Disk.{Ghosts}
use Rattle.fixed_units.specs.declared.texts.NoMemory.{NoMemory}
use Rattle.history.specs.After.{publication}
use Rattle.history.specs.Awaited.{SiteDay, pending_days}
use Rattle.office.specs.Steps.{Step, IsStep}
use Rattle.shared_office.specs.Entries.{has_ended, history_of, with_events}
use Rattle.shared_office.specs.Finding.{Finds, FindsBy, IsWorkStep, added_by_work}
use Rattle.shared_office.specs.Holdings.{Holding}
use Rattle.shared_office.specs.Passing.{Lock, fixed_in, fixed_of, listed}
use Rattle.shared_office.specs.declared.entries.Entry.{Entry}
use Rattle.shared_office.specs.declared.entries.Fixed.{Fixed}
use Rattle.shared_office.specs.declared.shared.Found.{Found}
use Rattle.shared_office.specs.declared.shared.Shared.{Shared}

-- the end was told in this list, and no day is pending
abbrev pub IsDrained : Fixed → List Entry → Type 0
IsDrained fixed list = (has_ended list ≡ true) × (pending_days (history_of fixed list).events ≡ [])

-- a holding added nothing, or the publication of one day
abbrev pub AddsADay : Holding (List Entry) → Type 0
AddsADay x = (x.to ≡ x.from) ⊎ ((d : SiteDay) × (x.to ≡ with_events x.from (publication d ∷ [])))

module _ {D : Type 0} {g : Ghosts D} where
  -- in this holding the office behind the lock went over by a step of a worker, and its list goes on by what that adds
  pub record IsTask (lock : Lock D g) (x : Holding (List Entry)) : Type 0 where
    pub old : Shared D g
    pub new : Shared D g
    pub step : Step
    pub of_worker : IsWorkStep step
    pub goes : IsStep old.office.register step new.office.register
    pub fixed_is : fixed_of old ≡ fixed_in lock
    pub from_is : x.from ≡ listed old
    pub to_is : x.to ≡ listed new
    pub adds : x.to ≡ with_events x.from (added_by_work step)

  -- what a worker found in a task
  abbrev pub IsFound : {lock : Lock D g} {x : Holding (List Entry)} → IsTask lock x → Result Found NoMemory → Type 0
  IsFound task result =
      FindsBy task.step result × IfOk result (Finds task.old.office.register task.old.ending task.new.office.register)
