-- A disk in memory keeps what it had at first and what each call did. All else is read off these.
use Rattle.std.specs.Prelude.{◌≡◌, ◌⊎◌, ℕ, ◌-◌, ◌/◌, ◌^◌, ◌≤◌, Bool, true, false, List, [], ◌∷◌, ◌++◌, length, map, take, replicate, Option, Some, IfSome, Result, Ok, Err, ⊤}
use Rattle.std.proofs.Common.{inl, refl, sym, subst, take_all}
use Rattle.std.proofs.Math.Nat.{le_refl}
use Rattle.devices.specs.declared.disks.DiskFailed.{DiskFailed}
use Rattle.devices.specs.declared.recordings.Change.{Change}
use Rattle.devices.specs.declared.recordings.Change.TheVariants.{Nothing, Synced, Wrote}
use Rattle.devices.specs.declared.recordings.Step.{Step}
use Rattle.devices.specs.Disks.{Torn, NothingNew, Elapses, overwritten}
use Rattle.devices.specs.Failures.{Counts, Fails, one_more, with_call, with_fault, without_faults}

-- what it had at first, what each call did, and how many calls failed behind these, for which there was no room
pub record Recorded : Type 0 where
  pub first : List ℕ
  pub steps : List Step
  pub unlisted : ℕ

-- these bytes, and no call yet
abbrev pub blank : List ℕ → Recorded
blank bytes = record { first = bytes; steps = []; unlisted = 0 }

-- the content after a call
abbrev pub changed : List ℕ → Change → List ℕ
changed content Nothing = content
changed content Synced = content
changed content (Wrote write) = overwritten content write.at write.left

-- the content after these calls
abbrev pub replayed : List ℕ → List Step → List ℕ
replayed content [] = content
replayed content (step ∷ steps) = replayed (changed content step.change) steps

-- what a stop may leave after a call: a sync leaves the content alone, and a write may have come to any bytes in its range
abbrev pub LeftAfter : Change → List ℕ → (List ℕ → Type 0) → List ℕ → Type 0
LeftAfter Nothing content images image = images image
LeftAfter Synced content images image = image ≡ content
LeftAfter (Wrote write) content images image = (before : List ℕ) × images before × Torn write.at write.count before image

-- what a stop may leave after these calls
abbrev pub Reached : List ℕ → (List ℕ → Type 0) → List Step → List ℕ → Type 0
Reached content images [] image = images image
Reached content images (step ∷ steps) image = Reached (changed content step.change) (LeftAfter step.change content images) steps image

-- the content itself, or what the calls allow
abbrev pub MayLeave : List ℕ → List Step → List ℕ → Type 0
MayLeave first steps image = (image ≡ replayed first steps) ⊎ Reached first (λ other. other ≡ first) steps image

-- what a stop might have left after some of the calls, no fewer than these
abbrev pub LeftSince : List ℕ → List Step → ℕ → List ℕ → Type 0
LeftSince first steps from image = (moment : ℕ) × (from ≤ moment) × (moment ≤ length steps) × MayLeave first (take moment steps) image

-- the content now
abbrev pub content_of : Recorded → List ℕ
content_of r = replayed r.first r.steps

-- what a stop may leave now
abbrev pub images_of : Recorded → List ℕ → Type 0
images_of r = MayLeave r.first r.steps

-- the content now is one of these
pub stands : (r : Recorded) (bytes : List ℕ) → Some (content_of r) ≡ Some bytes → images_of r bytes
stands r bytes is = subst (λ (o : Option (List ℕ)). IfSome o (images_of r)) is (inl refl)

-- the moment now, as the number of the calls that are listed
abbrev pub moment_of : Recorded → ℕ
moment_of r = length r.steps

-- what a stop might have left since a moment
abbrev pub since_of : Recorded → ℕ → List ℕ → Type 0
since_of r = LeftSince r.first r.steps

-- what a stop may leave now is of this moment, and so of any earlier one
pub counts_now : (r : Recorded) (from : ℕ) (image : List ℕ) → from ≤ moment_of r → images_of r image → since_of r from image
counts_now r from image le left = (
  moment_of r,
  le,
  le_refl (moment_of r),
  subst (λ (some : List Step). MayLeave r.first some image) (sym (take_all (moment_of r) r.steps (le_refl (moment_of r)))) left,
)

-- since this moment there is what there is now
pub only_now : (r : Recorded) (image : List ℕ) → since_of r (moment_of r) image → images_of r image
only_now r image (moment, from, to, left) =
    subst (λ (some : List Step). MayLeave r.first some image) (take_all moment r.steps from) left

-- each call, with whether it failed
abbrev pub calls_of : Recorded → List Bool
calls_of r = map (λ (step : Step). step.failed) r.steps ++ replicate r.unlisted true

-- the call leaves the content
abbrev pub IsQuiet : Change → Type 0
IsQuiet Nothing = ⊤
IsQuiet Synced = ⊤
IsQuiet (Wrote write) = ⊥

-- a call that was done
abbrev pub done : Change → Step
done change = record { failed = false; change = change }

-- the front half of the bytes
abbrev pub half : List ℕ → List ℕ
half bytes = take (length bytes / 2) bytes

-- one call more
abbrev pub with_step : Step → Recorded → Recorded
with_step step r = record r { steps = r.steps ++ step ∷ [] }

-- one call more that failed, for which there was no room
abbrev pub with_unlisted : Recorded → Recorded
with_unlisted r = record r { unlisted = one_more r.unlisted }

-- the call did nothing, and is listed as one that failed where there was room for it
abbrev pub DidNothing : Recorded → Recorded → Type 0
DidNothing old new = ((old.unlisted ≡ 0) × (new ≡ with_step (record { failed = true; change = Nothing }) old)) ⊎ (new ≡ with_unlisted old)

-- the call wrote these bytes, of a write of so many, and is listed as one that failed, or did nothing
abbrev pub WroteInPart : ℕ → ℕ → List ℕ → Recorded → Recorded → Type 0
WroteInPart at count left old new =
    (new ≡ with_step (record { failed = true; change = Wrote (record { at = at; count = count; left = left }) }) old) ⊎ DidNothing old new

-- the call is listed, or there was no room for it
abbrev pub IsNoted : Bool → Step → Recorded → Recorded → Type 0
IsNoted true step old new = (old.unlisted ≡ 0) × (new ≡ with_step step old)
IsNoted false step old new = new ≡ with_unlisted old

-- the call stands at the end of the list of calls, but where the count of those without room stands at its type's end
abbrev pub Lists : Bool → Recorded → Recorded → Type 0
Lists failed old new = (calls_of new ≡ calls_of old ++ failed ∷ []) ⊎ (2 ^ 64 - 1 ≤ new.unlisted)

-- time has gone on to what there is now
abbrev pub GoesOn : Recorded → Recorded → Type 0
GoesOn old new = Elapses (moment_of old) (moment_of new) (since_of old) (since_of new) (images_of new)

-- the content stays, a stop may leave no more than before, and time goes on
pub record LeavesContent (old new : Recorded) : Type 0 where
  pub same : content_of new ≡ content_of old
  pub images : NothingNew (images_of old) (images_of new)
  pub time : GoesOn old new

-- a disk in memory: what it has recorded, and its counts
pub record MemoryDiskState : Type 0 where
  pub recorded : Recorded
  pub counts : Counts

-- its count of faults begins anew, and all else stays
abbrev pub with_no_faults : MemoryDiskState → MemoryDiskState
with_no_faults disk = record disk { counts = without_faults disk.counts }

-- a disk in memory fails where it was told to; want of memory may fail it too
abbrev pub AnswersOnCommand : {T : Type 0} → Counts → Result T DiskFailed → Counts → Type 0
AnswersOnCommand before (Ok value) after = (¬ Fails before) × (after ≡ with_call before)
AnswersOnCommand before (Err error) after = after ≡ with_fault (with_call before)
