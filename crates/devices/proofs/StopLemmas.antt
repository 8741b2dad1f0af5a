-- What a stop leaves is one of the images of the disk.
use Rattle.std.proofs.Common.{◌≡◌, inr, ℕ, ◌+◌, ◌-◌, ◌≤◌, List, [], ◌∷◌, ◌++◌, length, take, replicate, refl, sym, ◌∙◌, ap, subst, suc, arith}
use Rattle.std.proofs.lemmas.List.{length-replicate}
use Rattle.devices.specs.Disks.{Torn, overwritten}
use Rattle.devices.specs.Writes.{Written}
use Rattle.devices.specs.MemoryDisks.{IsQuiet, LeftAfter, Reached, MayLeave, changed, replayed}
use Rattle.devices.specs.Stops.{AreWithin, ChangesWithin, IsWithin, Suits, left_after, left_by}
use Rattle.devices.specs.declared.recordings.Change.{Change}
use Rattle.devices.specs.declared.recordings.Change.TheVariants.{Nothing, Synced, Wrote}
use Rattle.devices.specs.declared.recordings.Step.{Step}
use Rattle.devices.specs.declared.stops.Unsynced.{Unsynced}
use Rattle.devices.specs.declared.stops.Unsynced.TheVariants.{Kept, Lost, Ones}
use Rattle.devices.proofs.Replays.{length-overwritten, torn_overwritten}

-- one call more
pub within-push : (content : List ℕ) (steps : List Step) (step : Step) → AreWithin content steps → ChangesWithin (replayed content steps) step.change
    → AreWithin content (steps ++ step ∷ [])
within-push content [] step all one = (one, tt)
within-push content (s ∷ steps) step (this, all) one = (this, within-push (changed content s.change) steps step all one)

pub quiet_within : (content : List ℕ) (change : Change) → IsQuiet change → ChangesWithin content change
quiet_within content Nothing quiet = tt
quiet_within content Synced quiet = tt
quiet_within content (Wrote write) quiet = absurd quiet

-- some of the first calls
pub within-take : (content : List ℕ) (steps : List Step) (n : ℕ) → AreWithin content steps → AreWithin content (take n steps)
within-take content steps Prim.Native.Nat.zero all = tt
within-take content [] (suc n) all = tt
within-take content (s ∷ steps) (suc n) (this, all) = (this, within-take (changed content s.change) steps n all)

-- where no bytes are lost, what is left is as long as the content
long : (one other bytes its_bytes : List ℕ) (at : ℕ) → at ≤ length other → length one ≡ length other → length bytes ≡ length its_bytes
    → length (overwritten one at bytes) ≡ length (overwritten other at its_bytes)
long one other bytes its_bytes at h same count =
    let here = length-overwritten one at bytes (omega (arith, same)) in
    let there = length-overwritten other at its_bytes h in
    omega (arith, same, count)

pub suits_on : (how : Unsynced) (image content : List ℕ) (change : Change) → ChangesWithin content change → Suits how image content
    → Suits how (left_by how image content change) (changed content change)
suits_on Kept image content Nothing within suits = suits
suits_on Kept image content Synced within suits = refl
suits_on Kept image content (Wrote write) within suits = long image content write.left write.left write.at within.begins suits refl
suits_on Lost image content change within suits = tt
suits_on Ones image content Nothing within suits = suits
suits_on Ones image content Synced within suits = refl
suits_on Ones image content (Wrote write) within suits =
    long image content (replicate (length write.left) 1) write.left write.at within.begins suits (length-replicate {A = ℕ} (length write.left) 1)

-- what is left was torn out of what was left
untouched : (at count : ℕ) (image : List ℕ) → Torn at count image image
untouched at count image = record { before = refl; behind = refl; no_shorter = omega arith; no_longer = omega arith }

torn : (how : Unsynced) (image content : List ℕ) (write : Written) → IsWithin content write → Suits how image content
    → Torn write.at write.count image (left_by how image content (Wrote write))
torn Kept image content write within suits = torn_overwritten image write.at write.count write.left (omega (arith, suits, within.begins)) within.front
torn Lost image content write within suits = untouched write.at write.count image
torn Ones image content write within suits =
    let ones : List ℕ = replicate (length write.left) 1 in
    torn_overwritten image write.at write.count ones (omega (arith, suits, within.begins)) (omega (arith, length-replicate {A = ℕ} (length write.left) 1, within.front))

reached_by : (how : Unsynced) (image content : List ℕ) (change : Change) (images : List ℕ → Type 0) → ChangesWithin content change → Suits how image content
    → images image → LeftAfter change content images (left_by how image content change)
reached_by how image content Nothing images within suits left = left
reached_by how image content Synced images within suits left = refl
reached_by how image content (Wrote write) images within suits left = (image, left, torn how image content write within suits)

reached : (how : Unsynced) (image content : List ℕ) (steps : List Step) (images : List ℕ → Type 0) → AreWithin content steps → Suits how image content
    → images image → Reached content images steps (left_after how image content steps)
reached how image content [] images all suits left = left
reached how image content (step ∷ steps) images (this, all) suits left =
    reached how (left_by how image content step.change) (changed content step.change) steps (LeftAfter step.change content images)
    all (suits_on how image content step.change this suits) (reached_by how image content step.change images this suits left)

-- at first what is left is the content
pub suits_first : (how : Unsynced) (content : List ℕ) → Suits how content content
suits_first Kept content = refl
suits_first Lost content = tt
suits_first Ones content = refl

pub is_image : (how : Unsynced) (first : List ℕ) (steps : List Step) → AreWithin first steps → MayLeave first steps (left_after how first first steps)
is_image how first steps all = inr (reached how first first steps (λ other. other ≡ first) all (suits_first how first) refl)
