-- Calls that only read, one behind another.
use Rattle.std.proofs.Common.{ℕ, ◌≤◌, List, refl, ◌∙◌, arith}
use Rattle.devices.specs.declared.disks.Disk.{Ghosts}
use Rattle.devices.specs.Disks.{Elapses, IsUnchanged, NothingNew}
use Rattle.journal.specs.Moments.{OnlyReads}
use Rattle.journal.proofs.Moments.{started, stepped, joined}

module _ {D : Type 0} (d : Ghosts D) where
  -- before the first call
  pub reads_nothing : (disk : D) → ((image : List ℕ) → d.left_since disk (d.moment disk) image → d.may_leave disk image) → OnlyReads d disk disk
  reads_nothing disk now = record {
    same = refl;
    images = λ image left. left;
    any_moment = started d disk (d.may_leave disk) now;
    counted = omega arith;
  }

  -- one call
  pub reads_once : (old new : D) → ((image : List ℕ) → d.left_since old (d.moment old) image → d.may_leave old image)
      → IsUnchanged (d.content old) (d.content new) → NothingNew (d.may_leave old) (d.may_leave new)
      → Elapses (d.moment old) (d.moment new) (d.left_since old) (d.left_since new) (d.may_leave new) → d.faults old ≤ d.faults new → OnlyReads d old new
  reads_once old new now same images time counted = record {
    same = same;
    images = images;
    any_moment = stepped d old new (d.may_leave old) (d.may_leave new) now time images;
    counted = counted;
  }

  -- one run behind another
  pub reads_joined : (old mid new : D) → OnlyReads d old mid → OnlyReads d mid new → OnlyReads d old new
  reads_joined old mid new first second = record {
    same = second.same ∙ first.same;
    images = λ image left. first.images image (second.images image left);
    any_moment = joined d old mid new (d.may_leave old) (d.may_leave mid) (d.may_leave old) first.any_moment second.any_moment (λ image was. was) first.images;
    counted = omega (arith, first.counted, second.counted);
  }
