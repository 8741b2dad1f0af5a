-- What passes in an office: nothing, and one stretch behind another.
use Rattle.std.proofs.Common.{◌≡◌, inl, ℕ, ◌+◌, List, [], ◌∷◌, ◌++◌, Option, Some, None, IsSome, is_some, refl, sym, ◌∙◌, ap, subst, append_assoc, append-nil, arith}
use Rattle.shared_office.specs.Passages.{Passes, RoseBy}
use Rattle.devices.specs.declared.disks.Disk.{Ghosts}
use Rattle.history.specs.After.{go_on}
use Rattle.history.specs.Events.{Event, History}
use Rattle.journal.proofs.Moments.{joined, started}
use Rattle.office.proofs.CountLemmas.{fault_count-append}
use Rattle.office.specs.Counting.{fault_count}
use Rattle.office.specs.Stops.{IsLeft, IsLeftBefore, IsLeftBetween}

-- no event more
went_nowhere : (h : History) → h ≡ go_on h []
went_nowhere h = ap (λ (l : List Event). record { opened = h.opened; limits = h.limits; format = h.format; events = l }) (sym (append-nil h.events))

-- more events, and then others
went_on : (h : History) (since behind : List Event) → go_on (go_on h since) behind ≡ go_on h (since ++ behind)
went_on h since behind =
    ap (λ (l : List Event). record { opened = h.opened; limits = h.limits; format = h.format; events = l }) (append_assoc h.events since behind)

-- what is left now is left on the way to what is now
left_now : (h : History) (image : List ℕ) → IsLeft h image → IsLeftBetween h h image
left_now h image left = record {
  since = [];
  behind = [];
  after_is = sym (append-nil (h.events ++ []) ∙ append-nil h.events);
  left = subst (λ (at : History). IsLeft at image) (went_nowhere h) left;
}

-- what is left before some events is left before these and others
before_longer : (h : History) (behind more : List Event) (image : List ℕ) → IsLeftBefore h behind image → IsLeftBefore h (behind ++ more) image
before_longer h [] [] image left = left
before_longer h [] (event ∷ more) image left = inl left
before_longer h (event ∷ behind) more image left = left

-- what is left on the way is left on a longer way
left_longer : (h mid : History) (more : List Event) (image : List ℕ) → IsLeftBetween h mid image → IsLeftBetween h (go_on mid more) image
left_longer h mid more image left = record {
  since = left.since;
  behind = left.behind ++ more;
  after_is = ap (λ (l : List Event). l ++ more) left.after_is ∙ append_assoc (h.events ++ left.since) left.behind more;
  left = before_longer (go_on h left.since) left.behind more image left.left;
}

left_earlier : (h after : History) (first : List Event) (image : List ℕ) → IsLeftBetween (go_on h first) after image → IsLeftBetween h after image
left_earlier h after first image left = record {
  since = first ++ left.since;
  behind = left.behind;
  after_is = left.after_is ∙ ap (λ (l : List Event). l ++ left.behind) (append_assoc h.events first left.since);
  left = subst (λ (at : History). IsLeftBefore at left.behind image) (went_on h first left.since) left.left;
}

rose_on : (m n k f0 f f' : ℕ) → k ≡ m + n → RoseBy m f0 f → RoseBy n f f' → RoseBy k f0 f'
rose_on m n k f0 f f' is a b = omega (arith, is, a, b)

-- a disk that told what it had tells it
tells : (before now : Option (List ℕ)) → is_some now ≡ is_some before → IsSome before → IsSome now
tells None now same some = absurd (cc some)
tells (Some b) None same some = absurd (cc same)
tells (Some b) (Some n) same some = refl

-- nothing passed
pub passes_none : {D : Type 0} (g : Ghosts D) (h : History) (disk : D)
    → ((image : List ℕ) → g.left_since disk (g.moment disk) image → g.may_leave disk image)
    → (IsSome (g.content disk) → (image : List ℕ) → g.may_leave disk image → IsLeft h image)
    → Passes g h h disk disk
passes_none g h disk only images = record {
  since = [];
  goes_on = went_nowhere h;
  causes = omega arith;
  leaves = λ some.
      started g disk (IsLeftBetween h h) (λ image left. left_now h image (images some image (only image left)));
  told = refl;
}

-- two stretches of a history, one behind the other
pub passes_more : {D : Type 0} (g : Ghosts D) (h mid after : History) (first old new : D)
    → Passes g h mid first old → Passes g mid after old new → Passes g h after first new
passes_more g h mid after first old new a b =
    let longer = λ (image : List ℕ). λ (left : IsLeftBetween h mid image).
    subst (λ (to : History). IsLeftBetween h to image) (sym b.goes_on) (left_longer h mid b.since image left) in
    let earlier = λ (image : List ℕ). λ (left : IsLeftBetween mid after image).
    left_earlier h after a.since image (subst (λ (from : History). IsLeftBetween from after image) a.goes_on left) in
    record {
      since = a.since ++ b.since;
      goes_on = b.goes_on ∙ ap (λ (from : History). go_on from b.since) a.goes_on ∙ went_on h a.since b.since;
      causes = rose_on (fault_count a.since) (fault_count b.since) (fault_count (a.since ++ b.since)) (g.faults first) (g.faults old) (g.faults new)
          (fault_count-append a.since b.since) a.causes b.causes;
      leaves = λ some.
          joined g first old new (IsLeftBetween h mid) (IsLeftBetween mid after) (IsLeftBetween h after)
          (a.leaves some) (b.leaves (tells (g.content first) (g.content old) a.told some)) longer earlier;
      told = b.told ∙ a.told;
    }
