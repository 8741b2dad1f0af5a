-- A disk that was taken out from under a name is under it again.
use Rattle.std.proofs.Common.{◌≡◌, ℕ, Bool, List, Result, Ok, Err, IfOk, OnOk}
use Rattle.devices.specs.Cabinets.{IsCounted, IsKept, IsOpened}
use Rattle.devices.specs.declared.cabinets.Opened.TheVariants as opens
use Rattle.devices.specs.declared.disks.Disk.{Ghosts}
use Rattle.commands.specs.Migrating.{IsHandledUnder}
use Rattle.commands.specs.Worlds.{Shelf}

pub handled_under : {D : Type 0} (g : Ghosts D) (name : List ℕ) (make : Bool) (P : D → D → Type 0) (before meanwhile after : Shelf D) (found left : D)
    → IsOpened g name make before.places meanwhile.places (opens.Disk found) → g.faults found ≡ 0 → meanwhile.faults ≡ before.faults → P found left
    → IsKept name left meanwhile.places after.places → IsCounted (g.faults left) meanwhile.faults after.faults → IsHandledUnder g name make P before after
handled_under g name make P before meanwhile after found left given fresh uncounted handled kept counted = record {
  found = found;
  left = left;
  meanwhile = meanwhile;
  given = given;
  fresh = fresh;
  uncounted = uncounted;
  handled = handled;
  kept = kept;
  counted = counted;
}

-- three facts of what was answered
pub all_ok : {A E : Type 0} (result : Result A E) (P : A → Type 0) (S R : Type 0) (Q : A → Type 0) → IfOk result P → IfOk result (λ value. S)
    → OnOk result R → ((value : A) → P value → S → R → Q value) → IfOk result Q
all_ok (Ok value) P S R Q p s r q = q value p s r
all_ok (Err fault) P S R Q p s r q = tt
