-- What is read off the calls of a disk in memory, after one call more.
use Rattle.std.proofs.Common.{◌≡◌, ◌⊎◌, inl, inr, ℕ, ◌+◌, ◌-◌, ◌≤◌, Bool, List, [], ◌∷◌, ◌++◌, length, take, drop, refl, sym, ◌∙◌, ap, subst, arith, append_assoc, length-append, length-drop, take_all}
use Rattle.std.proofs.lemmas.List.{take_at, drop_at, drop-drop, take-append-le}
use Rattle.std.proofs.Math.Seq.{length-take-le}
use Rattle.std.proofs.lemmas.Bool.{cases_lt}
use Rattle.devices.specs.Disks.{Torn, Follows, Only, NothingNew, overwritten}
use Rattle.devices.specs.Writes.{Written}
use Rattle.devices.specs.MemoryDisks.{Recorded, changed, replayed, LeftAfter, Reached, MayLeave, LeftSince, content_of, images_of, IsQuiet, with_step, GoesOn}
use Rattle.devices.specs.declared.recordings.Change.{Change}
use Rattle.devices.specs.declared.recordings.Change.TheVariants.{Nothing, Synced, Wrote}
use Rattle.devices.specs.declared.recordings.Step.{Step}

pub replayed-push : (content : List ℕ) (steps : List Step) (step : Step) → replayed content (steps ++ step ∷ []) ≡ changed (replayed content steps) step.change
replayed-push content [] step = refl
replayed-push content (s ∷ steps) step = replayed-push (changed content s.change) steps step

reached-push : (content : List ℕ) (images : List ℕ → Type 0) (steps : List Step) (step : Step) (image : List ℕ)
    → Reached content images (steps ++ step ∷ []) image → LeftAfter step.change (replayed content steps) (Reached content images steps) image
reached-push content images [] step image r = r
reached-push content images (s ∷ steps) step image r = reached-push (changed content s.change) (LeftAfter s.change content images) steps step image r

-- a call that leaves the content
quiet_content : (content : List ℕ) (change : Change) → IsQuiet change → changed content change ≡ content
quiet_content content Nothing q = refl
quiet_content content Synced q = refl
quiet_content content (Wrote write) q = absurd q

pub step_same : (r : Recorded) (step : Step) → IsQuiet step.change → content_of (with_step step r) ≡ content_of r
step_same r step q = replayed-push r.first r.steps step ∙ quiet_content (content_of r) step.change q

quiet_images : (r : Recorded) (change : Change) (image : List ℕ) → IsQuiet change
    → LeftAfter change (content_of r) (Reached r.first (λ other. other ≡ r.first) r.steps) image → images_of r image
quiet_images r Nothing image q left = inr left
quiet_images r Synced image q left = inl left
quiet_images r (Wrote write) image q left = absurd q

pub step_images : (r : Recorded) (step : Step) → IsQuiet step.change → NothingNew (images_of r) (images_of (with_step step r))
step_images r step q image (inl now) = inl (now ∙ step_same r step q)
step_images r step q image (inr left) = quiet_images r step.change image q (reached-push r.first (λ other. other ≡ r.first) r.steps step image left)

-- a sync leaves the content alone
pub synced_only : (r : Recorded) (failed : Bool) → Only (content_of r) (images_of (with_step (record { failed = failed; change = Synced }) r))
synced_only r failed image (inl now) = now ∙ replayed-push r.first r.steps (record { failed = failed; change = Synced })
synced_only r failed image (inr left) = reached-push r.first (λ other. other ≡ r.first) r.steps (record { failed = failed; change = Synced }) image left

-- a write, or a part of it
pub length-overwritten : (old : List ℕ) (at : ℕ) (bytes : List ℕ) → at ≤ length old
    → length (overwritten old at bytes) ≡ at + (length bytes + (length old - (at + length bytes)))
length-overwritten old at bytes h =
    let behind = drop (at + length bytes) old in
    omega (arith, length-take-le at old h, length-append (take at old ++ bytes) behind, length-append (take at old) bytes, length-drop (at + length bytes) old)

-- behind the bytes there is what was there
behind_overwritten : (old : List ℕ) (at : ℕ) (bytes : List ℕ) (more : ℕ) → at ≤ length old
    → drop ((at + length bytes) + more) (overwritten old at bytes) ≡ drop ((at + length bytes) + more) old
behind_overwritten old at bytes more h =
    sym (drop-drop more (at + length bytes) (overwritten old at bytes))
    ∙ ap (drop more) (drop_at (take at old ++ bytes) (drop (at + length bytes) old) (at + length bytes) (omega (arith, length-take-le at old h, length-append (take at old) bytes)))
    ∙ drop-drop more (at + length bytes) old

-- before the bytes there is what was there
before_overwritten : (old : List ℕ) (at : ℕ) (bytes : List ℕ) → at ≤ length old → take at (overwritten old at bytes) ≡ take at old
before_overwritten old at bytes h =
    let behind = drop (at + length bytes) old in
    ap (take at) (append_assoc (take at old) bytes behind) ∙ take_at (take at old) (bytes ++ behind) at (length-take-le at old h)

pub torn_overwritten : (old : List ℕ) (at count : ℕ) (bytes : List ℕ) → at ≤ length old → length bytes ≤ count → Torn at count old (overwritten old at bytes)
torn_overwritten old at count bytes h f =
    let size : (at + length bytes) + (count - length bytes) ≡ at + count = omega arith in
    let long = length-overwritten old at bytes h in
    record {
      before = before_overwritten old at bytes h;
      behind = subst (λ (n : ℕ). drop n (overwritten old at bytes) ≡ drop n old) size (behind_overwritten old at bytes (count - length bytes) h);
      no_shorter = omega arith;
      no_longer = omega arith;
    }

pub wrote_images : (r : Recorded) (failed : Bool) (write : Written) → write.at ≤ length (content_of r) → length write.left ≤ write.count
    → Follows (Torn write.at write.count) (images_of r) (images_of (with_step (record { failed = failed; change = Wrote write }) r))
wrote_images r failed write h f image (inl now) = (
  content_of r,
  inl refl,
  subst (Torn write.at write.count (content_of r)) (sym (now ∙ replayed-push r.first r.steps (record { failed = failed; change = Wrote write }))) (torn_overwritten (content_of r) write.at write.count write.left h f),
)
wrote_images r failed write h f image (inr left) =
    let from = reached-push r.first (λ other. other ≡ r.first) r.steps (record { failed = failed; change = Wrote write }) image left in
    (from.0, inr from.1, from.2)

-- time
pub time_stays : (r : Recorded) → GoesOn r r
time_stays r = record { later = omega arith; nothing_else = λ from image le left. inl left; remembers = λ from image le left. left }

earlier : (first : List ℕ) (steps : List Step) (step : Step) (from : ℕ) (image : List ℕ)
    → LeftSince first (steps ++ step ∷ []) from image → LeftSince first steps from image ⊎ MayLeave first (steps ++ step ∷ []) image
earlier first steps step from image (k, low, high, left) = elim (cases_lt (length steps) k) [
  | inl behind ↦ inr (subst (λ (some : List Step). MayLeave first some image) (take_all k (steps ++ step ∷ []) (omega (arith, length-append steps (step ∷ [])))) left)
  | inr within ↦ inl (k, low, within, subst (λ (some : List Step). MayLeave first some image) (take-append-le k steps (step ∷ []) within) left)
]

pub step_time : (r : Recorded) (step : Step) → GoesOn r (with_step step r)
step_time r step = record {
  later = omega (arith, length-append r.steps (step ∷ []));
  nothing_else = λ from image le left. earlier r.first r.steps step from image left;
  remembers = λ from image le (k, low, high, left). (
    k,
    low,
    omega (arith, length-append r.steps (step ∷ [])),
    subst (λ (some : List Step). MayLeave r.first some image) (sym (take-append-le k r.steps (step ∷ []) high)) left,
  );
}
