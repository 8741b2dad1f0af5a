-- What a pass to a shared office has gone through.
use Rattle.std.specs.Prelude.{◌≡◌, ◌-◌, List, ◌++◌, length, Option}
use mathlib.Core.List.{IsPrefix}
use Rattle.atomic_table.specs.declared.shared.Seat.{Seat}
use Rattle.devices.specs.declared.disks.Disk.{Ghosts}
use Rattle.history.specs.Events.{Event, History}
use Rattle.office.specs.Offices.{Officed}
use Rattle.shared_office.specs.Entries.{entries, fixed_part, history_of, with_ending, with_events}
use Rattle.shared_office.specs.Holdings.{Holding, Follow, places_of}
use Rattle.shared_office.specs.declared.entries.Entry.{Entry}
use Rattle.shared_office.specs.declared.entries.Fixed.{Fixed}
use Rattle.shared_office.specs.declared.shared.Shared.{Shared}
use Rattle.turnstile.specs.Passes.{IsPassOf, first_value, seen, share, tally}
use Rattle.turnstile.specs.Places.{places}
use Rattle.turnstile.specs.declared.lock.Turnstile.{Turnstile}
use Rattle.turnstile.specs.declared.parties.Party.{Party}

-- what never changes: the fixed part of the history, and the office as it was when it was shared
abbrev pub Unchanging : Type 0 → Type 0
Unchanging D = Fixed × Officed D

-- a lock round a shared office, and a pass to one
abbrev pub Lock : (D : Type 0) → Ghosts D → Type 0
Lock D g = Turnstile (Shared D g) Entry (Unchanging D)

abbrev pub PassTo : (D : Type 0) → Ghosts D → Type 0
PassTo D g = Seat (Option (Shared D g)) (Party Entry (Unchanging D))

module _ {D : Type 0} {g : Ghosts D} where
  abbrev pub listed : Shared D g → List Entry
  listed s = entries s.office.register.history.events s.ending

  abbrev pub fixed_of : Shared D g → Fixed
  fixed_of s = fixed_part s.office.register.history

  abbrev pub unchanging : Shared D g → Unchanging D
  unchanging s = (fixed_of s, s.begun.value)

  -- a pass of this lock
  abbrev pub IsOf : Lock D g → PassTo D g → Type 0
  IsOf lock pass = IsPassOf listed unchanging lock pass

  -- the part that never changes of the office behind a lock
  abbrev pub fixed_in : Lock D g → Fixed
  fixed_in lock = fixed_of (first_value lock)

  -- the office as it was when it was put behind a lock
  abbrev pub begun_in : Lock D g → Officed D
  begun_in lock = (first_value lock).begun.value

  -- the history that a list tells behind a lock
  abbrev pub history_in : Lock D g → List Entry → History
  history_in lock list = history_of (fixed_in lock) list

  -- the pass has gone through these holdings, which are all that its tally grew by
  pub record Goes (given back : PassTo D g) (xs : List (Holding (List Entry))) : Type 0 where
    pub begins : IsPrefix (seen given) (seen back)
    pub follow : Follow IsPrefix (seen given) xs (seen back)
    pub share_is : share back ≡ share given
    pub tally_is : tally back ≡ tally given ++ places_of length xs

  -- the pass was in one holding
  pub record GoesOnce (given back : PassTo D g) (x : Holding (List Entry)) : Type 0 where
    pub begins : IsPrefix (seen given) x.from
    pub grows : IsPrefix x.from x.to
    pub seen_is : seen back ≡ x.to
    pub share_is : share back ≡ share given
    pub tally_is : tally back ≡ tally given ++ places (length x.from) (length x.to - length x.from)

-- a holding that added these events
abbrev pub adding : List Entry → List Event → Holding (List Entry)
adding list added = record { from = list; to = with_events list added }

-- a holding in which the end was told, where it was not told yet
abbrev pub telling_end : List Entry → Holding (List Entry)
telling_end list = record { from = list; to = with_ending list }
