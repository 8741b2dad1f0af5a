-- Connections that are served beside workers.
use Rattle.std.specs.Prelude.{◌≡◌, ℕ, ◌+◌, ◌<◌, true, List, [], ◌∷◌, ◌++◌, length, slice_get, All, Option, Some, ℤ}
use Rattle.std.specs.List.{concat}
use mathlib.Core.List.{IsPrefix}
use Rattle.devices.specs.Doors.{Ends}
use Rattle.devices.specs.Faults.{Rose}
use Rattle.devices.specs.declared.disks.Disk.{Ghosts}
use Rattle.fixed_units.specs.Quantities.{SiteNumber}
use Rattle.history.specs.Events.{Published}
use Rattle.serving.specs.Crews.{IsWorkIn}
use Rattle.serving.specs.Taking.{AreServed}
use Rattle.serving.specs.declared.whole.ServeEnd.{ServeEnd}
use Rattle.serving.specs.declared.whole.ServeEnd.TheVariants.{End, DoorFault, NoMemory}
use Rattle.shared_office.specs.Entries.{before_ending, has_ended}
use Rattle.shared_office.specs.Passing.{Lock, fixed_in}
use Rattle.shared_office.specs.declared.entries.Entry.{Entry}
use Rattle.shared_office.specs.declared.entries.Entry.TheVariants.{Happened}
use Rattle.turnstile.specs.Places.{times}

-- the publication of a day stands at this place
abbrev pub IsPublicationAt : List Entry → ℕ → Type 0
IsPublicationAt list place = (site : SiteNumber) × (day : ℤ) × (slice_get list place ≡ Some (Happened (Published site day)))

-- Connections were served, and so many workers worked, each to its end, beside each other, and the end was told behind the connections:
-- `before` was seen at the start, behind which all holdings lie, and `after` is seen then. The tally grew by the places of each connection, of each worker and of the
-- ending, each once.
pub record ServedBeside {D : Type 0} {g : Ghosts D} (lock : Lock D g) (count : ℕ) (before after : List Entry) (tally_before tally_after : List ℕ)
    (given : List Ends) (back : ℕ → Option Ends) : Type 0 where
  pub connections : List (List ℕ)
  pub workers : List (List ℕ)
  pub count_is : length workers ≡ count
  pub grows : IsPrefix before after
  pub ended : has_ended after ≡ true
  pub each : AreServed (fixed_in lock) (length before) (before_ending after) back 1 given connections
  pub work : All (IsWorkIn lock before after) workers
  pub published : All (λ places. All (IsPublicationAt after) places) workers
  pub tally : (place : ℕ) → times place tally_after
      ≡ times place tally_before + times place (concat connections ++ (concat workers ++ length (before_ending after) ∷ []))

-- how serving ended: all connections were given, or the doors failed before, or there was no memory to begin
abbrev pub IsServeEnd : ServeEnd → ℕ → List Ends → ℕ → ℕ → Type 0
IsServeEnd End connections given before now = (length given ≡ connections) × (now ≡ before)
IsServeEnd DoorFault connections given before now = (length given < connections) × Rose before now
IsServeEnd NoMemory connections given before now = (given ≡ []) × (now ≡ before)
