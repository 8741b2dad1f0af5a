-- The days in review that an edit changes, among the standings of their site.
use Rattle.std.specs.Prelude.{◌≡◌, ℕ, ◌+◌, Bool, true, false, not, ◌&&◌, ◌||◌, cond, List, [], ◌∷◌, length, filter, find, Option, Some, None, Result, Ok, Err, IfOk, is_ok, ℤ, ◌<ℤ◌, All, AllPairs, if◌then◌else◌}
use Rattle.std.specs.List.{HoldsAt, list_any}
use Rattle.std.specs.List.Sorted.{IsBinarySearchResult, IsSearchInRange, IsSortedBy}
use Rattle.std.specs.Ordering.{int_cmp, int_eq, is_eq, is_lt}
use Rattle.std.specs.declared.cmp.Ordering.TheVariants.{Equal}
use Rattle.std.proofs.Common.{arith, refl, ap, sym, ◌∙◌, get_or, inl, inr, subst}
use Rattle.std.proofs.lemmas.Bool.{cases_lt}
use Rattle.std.proofs.lemmas.Bool.Decides.{Decides-int_eq}
use Rattle.std.proofs.lemmas.Cmp.{int_cmp_total}
use Rattle.std.proofs.lemmas.Int.{ints}
use Rattle.std.proofs.lemmas.List.Elements.{All-filter, All-head, All-tail}
use Rattle.std.proofs.lemmas.List.Folds.{list_any_at, list_any_none}
use Rattle.std.proofs.lemmas.List.Sorted.{searchable_from_sorted}
use Rattle.rising.specs.Lists.{IsRising, at}
use Rattle.rising.proofs.Parting.{IsAfter}
use Rattle.rising.proofs.Placing.{none_stands}
use Rattle.rising.proofs.Selecting.{none_found}
use Rattle.rising.proofs.Splitting.{rest_is_later, rest_rises}
use Rattle.approval.specs.Kept.{day_place, standing_at, standing_of}
use Rattle.approval.specs.Statuses.{Standing, is_in_review, worked}
use Rattle.approval.specs.declared.days.DayStanding.{DayStanding}

-- what a search among rising days finds
not_less : (a b : ℤ) → a <ℤ b → is_lt (int_cmp b a) ≡ false
not_less a b h = grind (arith, ints)

sorted : (days : List ℤ) → AllPairs (λ a b. a <ℤ b) days → IsSortedBy (λ a b. is_lt (int_cmp a b)) days
sorted days h k d l m = not_less (get_or days k d) (get_or days (k + 1) d) (h k (k + 1) d (omega arith) m)

pub searched_days : (r : Result ℕ ℕ) (days : List ℤ) (day : ℤ) → AllPairs (λ a b. a <ℤ b) days → IsSearchInRange r (length days)
    → IfOk r (HoldsAt (λ y. int_cmp y day ≡ Equal) days) → IsBinarySearchResult (λ y. int_cmp y day) days r → is_ok r ≡ list_any (λ d. int_eq d day) days
searched_days (Ok i) days day h w ok place = sym (list_any_at (λ d. int_eq d day) days i day w (ap is_eq (ok day)))
searched_days (Err i) days day h w ok place =
    let parted = place (searchable_from_sorted int_cmp_total (λ d. d) days day (sorted days h)) in
    sym (list_any_none (λ d. int_eq d day) days
    (λ k d l. elim (cases_lt k i) [
      | inl m ↦ ap is_eq (parted.0 k d (omega arith) m)
      | inr m ↦ ap is_eq (parted.1 k d m l)
    ]))

module _ {X : Type 0} (place : X → ℤ) where
  -- what a filter keeps of what is found at a number
  abbrev pub kept : (X → Bool) → Option X → Option X
  kept p None = None
  kept p (Some x) = cond (p x) (Some x) None

  found_step : (n : ℤ) (p : X → Bool) (x : X) (xs : List X) (b c : Bool) → int_eq (place x) n ≡ b → p x ≡ c → IsRising place (x ∷ xs)
      → at place n (filter p xs) ≡ kept p (at place n xs) → at place n (cond c (x ∷ filter p xs) (filter p xs)) ≡ kept p (cond b (Some x) (at place n xs))
  found_step n p x xs true true e f h k = rw (e, f) refl
  found_step n p x xs true false e f h k =
      let s : place x ≡ n = (Decides-int_eq (place x) n).0 e in
      let later : All (IsAfter place n) xs = subst (λ (m : ℤ). All (IsAfter place m) xs) s (rest_is_later place x xs h) in
      rw f (none_stands place n (filter p xs) (All-filter p (IsAfter place n) xs later))
  found_step n p x xs false true e f h k = rw e k
  found_step n p x xs false false e f h k = k

  pub found_kept : (n : ℤ) (p : X → Bool) (xs : List X) → IsRising place xs → at place n (filter p xs) ≡ kept p (at place n xs)
  found_kept n p [] h = refl
  found_kept n p (x ∷ xs) h = found_step n p x xs (int_eq (place x) n) (p x) refl refl h (found_kept n p xs (rest_rises place x xs h))

  -- what is found at a number stands at it
  at_found_step : (n : ℤ) (x y : X) (b : Bool) (o : Option X) → int_eq (place x) n ≡ b → cond b (Some x) o ≡ Some y → (o ≡ Some y → place y ≡ n) → place y ≡ n
  at_found_step n x y true o e f k = let s : x ≡ y = cc in ap place (sym s) ∙ (Decides-int_eq (place x) n).0 e
  at_found_step n x y false o e f k = k f

  pub at_found : (n : ℤ) (xs : List X) (y : X) → at place n xs ≡ Some y → place y ≡ n
  at_found n [] y e = absurd (cc)
  at_found n (x ∷ xs) y e = at_found_step n x y (int_eq (place x) n) (at place n xs) refl e (at_found n xs y)

-- the standings without those in review that are changed
abbrev pub stays : List ℤ → DayStanding → Bool
stays changed s = not (list_any (λ d. int_eq d s.day) changed && is_in_review s.status)

left_standing : (changed : List ℤ) (day : ℤ) (s : DayStanding) (b c : Bool) → list_any (λ d. int_eq d s.day) changed ≡ b → is_in_review s.status ≡ c
    → standing_of (cond (not (b && c)) (Some s) None) ≡ (if b && c then worked else record { status = s.status; edit = s.edit })
left_standing changed day s true true e f = refl
left_standing changed day s true false e f = refl
left_standing changed day s false c e f = refl

none_standing : (b : Bool) → worked ≡ (if b && false then worked else worked)
none_standing true = refl
none_standing false = refl

left_of : (changed : List ℤ) (day : ℤ) (o : Option DayStanding) → ((s : DayStanding) → o ≡ Some s → s.day ≡ day)
    → standing_of (kept day_place (stays changed) o)
    ≡ (if list_any (λ d. int_eq d day) changed && is_in_review (standing_of o).status then worked else standing_of o)
left_of changed day None h = none_standing (list_any (λ d. int_eq d day) changed)
left_of changed day (Some s) h =
    let e = h s refl in
    left_standing changed day s (list_any (λ d. int_eq d s.day) changed) (is_in_review s.status) refl refl
    ∙ ap (λ (n : ℤ). if list_any (λ d. int_eq d n) changed && is_in_review s.status then worked else record { status = s.status; edit = s.edit }) e

pub standings_left : (changed : List ℤ) (xs ys : List DayStanding) (day : ℤ) → IsRising day_place xs → ys ≡ filter (stays changed) xs
    → standing_at ys day ≡ (if list_any (λ d. int_eq d day) changed && is_in_review (standing_at xs day).status then worked else standing_at xs day)
standings_left changed xs ys day h e =
    ap standing_of (ap (at day_place day) e ∙ found_kept day_place day (stays changed) xs h)
    ∙ left_of changed day (at day_place day xs) (λ s f. at_found day_place day xs s f)

-- where none of the changed days is in review, all stay
none_among : (p : ℤ → Bool) (day : ℤ) (changed : List ℤ) → All (λ d. p d ≡ false) changed → list_any (λ d. int_eq d day) changed ≡ true → p day ≡ false
none_among p day [] h e = absurd (cc)
none_among p day (d ∷ changed) h e = none_among_step p day d changed (int_eq d day) refl h e (none_among p day changed (All-tail (λ d. p d ≡ false) d changed h))
  where
    none_among_step : (p : ℤ → Bool) (day d : ℤ) (changed : List ℤ) (b : Bool) → int_eq d day ≡ b → All (λ d. p d ≡ false) (d ∷ changed)
        → (b || list_any (λ d. int_eq d day) changed) ≡ true → (list_any (λ d. int_eq d day) changed ≡ true → p day ≡ false) → p day ≡ false
    none_among_step p day d changed true e h f k = ap p (sym ((Decides-int_eq d day).0 e)) ∙ All-head (λ d. p d ≡ false) d changed h
    none_among_step p day d changed false e h f k = k f

stay_step : (b c : Bool) (s : Standing) → (b ≡ true → c ≡ false) → s ≡ (if b && c then worked else s)
stay_step true true s h = absurd (let e = h refl in cc)
stay_step true false s h = refl
stay_step false c s h = refl

pub all_stay : (changed : List ℤ) (xs : List DayStanding) (day : ℤ) → find (λ d. is_in_review (standing_at xs d).status) changed ≡ None
    → standing_at xs day ≡ (if list_any (λ d. int_eq d day) changed && is_in_review (standing_at xs day).status then worked else standing_at xs day)
all_stay changed xs day e =
    stay_step (list_any (λ d. int_eq d day) changed) (is_in_review (standing_at xs day).status) (standing_at xs day)
    (none_among (λ d. is_in_review (standing_at xs d).status) day changed (none_found (λ d. is_in_review (standing_at xs d).status) changed e))
