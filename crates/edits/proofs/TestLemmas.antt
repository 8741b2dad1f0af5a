-- Tests of facts.
use Rattle.std.proofs.Common.{◌≡◌, ◌↔◌, true, false, Bool, IfOk, ℕ, suc, ◌+◌, ◌<◌, ◌≤◌, List, [], ◌∷◌, length, All, ℤ, ◌<ℤ◌, refl, arith, sym, subst, ◌∙◌, get_or}
use Rattle.std.specs.Prelude.{Result, Ok, Err}
use Rattle.std.specs.Bool.{MatchBool}
use Rattle.std.specs.List.{AllAdjacentBelow, AllWithin, HoldsAt, IsAllAdjacentAnswer}
use Rattle.std.proofs.lemmas.Iterator.Search.{true_from_All}
use Rattle.std.proofs.lemmas.Int.{ints}
use Rattle.std.proofs.lemmas.List.Elements.{All-cons, All-nil, All-weaker, All-from_all_within}
use Rattle.std.proofs.lemmas.List.Kept.{AllPairs-cons}
use Rattle.rising.specs.Lists.{IsRising}
use Rattle.rising.proofs.Parting.{IsAfter}
use Rattle.rising.proofs.Selecting.{AllPairs-head}

-- a test of one fact tells another that is as good
pub told_as_well : {E : Type 0} (P Q : Type 0) (r : Result Bool E) → (P → Q) → (Q → P) → IfOk r (λ told. told ≡ true ↔ P) → IfOk r (λ told. told ≡ true ↔ Q)
told_as_well P Q (Ok b) to from h = (λ e. to (h.0 e), λ q. h.1 (from q))
told_as_well P Q (Err e) to from h = h

-- a test of each element tells whether each has the fact
pub all_told : {X : Type 0} (P : X → Type 0) (told : Bool) (xs : List X)
    → MatchBool told (AllWithin P xs 0 (length xs)) ((k : ℕ) × (k < length xs) × HoldsAt (λ x. ¬ P x) xs k) → told ≡ true ↔ All P xs
all_told P true xs h = (λ e. All-from_all_within P xs h, λ all. refl)
all_told P false xs h = (λ e. absurd cc, λ all. true_from_All P (λ x. ¬ P x) false xs (λ x p n. n p) h all)

-- a test of neighbours, that the next stands later and has the fact, tells with a test of the first whether a list rises and each has it
module _ {X : Type 0} (place : X → ℤ) (P : X → Type 0) (follows : X → X → Bool) (decides : (x y : X) → follows x y ≡ true ↔ (place x <ℤ place y) × P y) where
  abbrev IsNext : X → X → Type 0
  IsNext x y = true ≡ follows x y

  next_of_rest : (x : X) (xs : List X) → AllAdjacentBelow IsNext (x ∷ xs) (length (x ∷ xs)) → AllAdjacentBelow IsNext xs (length xs)
  next_of_rest x xs h k d below =
      let moved : suc k + 1 ≡ suc (k + 1) = omega arith in
      subst (λ (n : ℕ). IsNext (get_or (x ∷ xs) (suc k) d) (get_or (x ∷ xs) n d)) moved (h (suc k) d (omega arith))

  from_next : (x : X) (xs : List X) → P x → AllAdjacentBelow IsNext (x ∷ xs) (length (x ∷ xs)) → IsRising place (x ∷ xs) × All P (x ∷ xs)
  from_next x [] p h = (λ i j d l m. absurd (omega arith), All-cons P x [] p (All-nil P))
  from_next x (y ∷ ys) p h =
      let next = (decides x y).0 (sym (h 0 x (omega arith))) in
      let rest = from_next y ys next.1 (next_of_rest x (y ∷ ys) h) in
      let later = All-weaker (IsAfter place (place y)) (IsAfter place (place x)) (λ z l. omega (arith, ints, next.0, l)) ys (AllPairs-head (λ a b. place a <ℤ place b) y ys rest.0) in
      (AllPairs-cons (λ a b. place a <ℤ place b) x (y ∷ ys) (All-cons (IsAfter place (place x)) y ys next.0 later) rest.0, All-cons P x (y ∷ ys) p rest.1)

  pub rising_told : (xs : List X) (told : Bool) → 1 ≤ length xs → ((d : X) → P (get_or xs 0 d)) → IsAllAdjacentAnswer (λ x y b. b ≡ follows x y) xs told
      → told ≡ true ↔ IsRising place xs × All P xs
  rising_told [] told least first h = absurd (omega arith)
  rising_told (x ∷ xs) true least first h = (λ e. from_next x xs (first x) h, λ both. refl)
  rising_told (x ∷ xs) false least first h = (
    λ e. absurd cc,
    λ both.
        let no : false ≡ true = h.2 x ∙ (decides _ _).1 (both.0 h.0 (h.0 + 1) x (omega arith) h.1, both.1 (h.0 + 1) x h.1) in
        absurd cc,
  )
