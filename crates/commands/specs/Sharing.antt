-- An office that is shared behind a lock for a while.
use Rattle.std.specs.Prelude.{◌≡◌, ◌^◌, List, [], length, map}
use Rattle.devices.specs.declared.disks.Disk.{Ghosts}
use Rattle.history.specs.Events.{History}
use Rattle.shared_office.specs.Entries.{fixed_part}
use Rattle.shared_office.specs.Passing.{IsOf, Lock, PassTo, fixed_in, listed}
use Rattle.shared_office.specs.declared.entries.Entry.{Entry}
use Rattle.shared_office.specs.declared.entries.Entry.TheVariants.{Happened}
use Rattle.turnstile.specs.Passes.{first_value, seen, share, tally}

-- what the list behind a lock begins with that was made round an office of this history
abbrev pub begun : History → List Entry
begun h = map Happened h.events

-- a lock round an office of this history, with the pass that has its whole share
pub record IsSharedBy {D : Type 0} {g : Ghosts D} (h : History) (lock : Lock D g) (pass : PassTo D g) : Type 0 where
  pub of : IsOf lock pass
  pub share_is : share pass ≡ 2 ^ 32
  pub seen_is : seen pass ≡ begun h
  pub tally_is : tally pass ≡ []
  pub fixed_is : fixed_in lock ≡ fixed_part h
  pub length_is : length (listed (first_value lock)) ≡ length h.events
