-- What the recording inside a disk in memory did, said of the disk as it is seen from outside.
use Rattle.std.proofs.Common.{◌≡◌, ℕ, ◌≤◌, Bool, true, false, List, length, refl, sym, ap, subst, arith}
use Rattle.devices.specs.Disks.{Torn, NothingNew, overwritten}
use Rattle.devices.specs.MemoryDisks.{MemoryDiskState, Recorded, content_of, images_of, GoesOn, LeavesContent}
use Rattle.devices.proofs.Replays.{torn_overwritten}

-- a call that leaves the content of the recording leaves that of the disk, by what a stop may leave and by time as well
pub leaves_content : (old was new : Recorded) → was ≡ old → content_of new ≡ content_of was → NothingNew (images_of was) (images_of new)
    → GoesOn was new → LeavesContent old new
leaves_content old was new is same images time =
    subst (λ (r : Recorded). LeavesContent r new) is (record { same = same; images = images; time = time })

-- time goes on for the disk as for its recording
pub same_time : (old was new : Recorded) → was ≡ old → GoesOn was new → GoesOn old new
same_time old was new same is = subst (λ (r : Recorded). GoesOn r new) same is

pub was : {inside disk : MemoryDiskState} → inside ≡ disk → inside.recorded ≡ disk.recorded
was is = ap (λ (d : MemoryDiskState). d.recorded) is

torn_same : (at count : ℕ) (old : List ℕ) → Torn at count old old
torn_same at count old = record { before = refl; behind = refl; no_shorter = omega arith; no_longer = omega arith }

torn_by : (wrote : Bool) (at count : ℕ) (bytes old new : List ℕ) → at ≤ length old → length bytes ≤ count
    → (wrote ≡ true → new ≡ overwritten old at bytes) → (wrote ≡ false → new ≡ old) → Torn at count old new
torn_by true at count bytes old new begins front written same = rw (written refl) (torn_overwritten old at count bytes begins front)
torn_by false at count bytes old new begins front written same = rw (same refl) (torn_same at count old)

-- a write that wrote these bytes, or nothing
pub torn : (wrote : Bool) (at count : ℕ) (bytes : List ℕ) (old was new : Recorded) → was ≡ old → at ≤ length (content_of old) → length bytes ≤ count
    → (wrote ≡ true → content_of new ≡ overwritten (content_of was) at bytes) → (wrote ≡ false → content_of new ≡ content_of was)
    → Torn at count (content_of old) (content_of new)
torn wrote at count bytes old was new is begins front written same =
    subst (λ (r : Recorded). Torn at count (content_of r) (content_of new)) is
    (torn_by wrote at count bytes (content_of was) (content_of new) (subst (λ (r : Recorded). at ≤ length (content_of r)) (sym is) begins) front written same)
