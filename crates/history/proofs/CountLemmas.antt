-- Sums and counts over lists: where one element gives another number, and where two tests are joined.
use Rattle.std.specs.Prelude.{◌≡◌, ℕ, ◌+◌, Bool, true, false, not, ◌||◌, cond, List, [], ◌∷◌, length, filter, sum_by, count_by, All, Some, None, ℤ}
use Rattle.std.specs.Ordering.{int_eq}
use Rattle.std.proofs.Common.{arith, refl, ap, sym, ◌∙◌}
use Rattle.std.proofs.lemmas.Bool.{false≢true}
use Rattle.std.proofs.lemmas.Bool.Decides.{Decides-int_eq}
use Rattle.std.proofs.lemmas.Int.{ints}
use Rattle.std.proofs.lemmas.List.Elements.{All-head, All-tail, All-weaker}
use Rattle.std.proofs.lemmas.List.Sums.{sum_by-cons}
use Rattle.rising.specs.Lists.{IsRising, at}
use Rattle.rising.proofs.Parting.{IsAfter}
use Rattle.rising.proofs.Splitting.{rest_rises, rest_is_later}

pub sums_same : {A : Type 0} (f g : A → ℕ) (xs : List A) → All (λ x. g x ≡ f x) xs → sum_by g xs ≡ sum_by f xs
sums_same f g [] h = refl
sums_same f g (x ∷ xs) h =
    sum_by-cons g x xs ∙ ap (λ n. n + sum_by g xs) (All-head (λ x. g x ≡ f x) x xs h)
    ∙ ap (λ n. f x + n) (sums_same f g xs (All-tail (λ x. g x ≡ f x) x xs h)) ∙ sym (sum_by-cons f x xs)

module _ {A : Type 0} (p : A → ℤ) (f g : A → ℕ) (n : ℤ) (others : (x : A) → (p x ≡ n → ⊥) → g x ≡ f x) where
  swapped_step : (x : A) (xs : List A) (found : A) (b : Bool) → int_eq (p x) n ≡ b → IsRising p (x ∷ xs)
      → cond b (Some x) (at p n xs) ≡ Some found
      → (at p n xs ≡ Some found → sum_by g xs + f found ≡ sum_by f xs + g found)
      → sum_by g (x ∷ xs) + f found ≡ sum_by f (x ∷ xs) + g found
  swapped_step x xs found true e h s rec =
      let same : x ≡ found = cc in
      let here : p x ≡ n = (Decides-int_eq (p x) n).0 e in
      let rest = sums_same f g xs (All-weaker (IsAfter p (p x)) (λ y. g y ≡ f y) (λ y k. others y (λ t. omega (arith, ints, k, here, t))) xs (rest_is_later p x xs h)) in
      let a = sum_by-cons g x xs in
      let b = sum_by-cons f x xs in
      let u = ap f same in
      let v = ap g same in
      omega (arith, a, b, rest, u, v)
  swapped_step x xs found false e h s rec =
      let here : g x ≡ f x = others x (λ k. false≢true (sym e ∙ (Decides-int_eq (p x) n).1 k)) in
      let rest = rec s in
      let a = sum_by-cons g x xs in
      let b = sum_by-cons f x xs in
      omega (arith, a, b, rest, here)

  -- where one element gives another number, so does the sum
  pub sums_swapped : (xs : List A) (found : A) → IsRising p xs → at p n xs ≡ Some found → sum_by g xs + f found ≡ sum_by f xs + g found
  sums_swapped [] found h s = absurd (cc)
  sums_swapped (x ∷ xs) found h s = swapped_step x xs found (int_eq (p x) n) refl h s (sums_swapped xs found (rest_rises p x xs h))

  kept_step : (x : A) (xs : List A) (b : Bool) → int_eq (p x) n ≡ b → cond b (Some x) (at p n xs) ≡ None
      → (at p n xs ≡ None → sum_by g xs ≡ sum_by f xs) → sum_by g (x ∷ xs) ≡ sum_by f (x ∷ xs)
  kept_step x xs true e s rec = absurd (cc)
  kept_step x xs false e s rec =
      let here : g x ≡ f x = others x (λ k. false≢true (sym e ∙ (Decides-int_eq (p x) n).1 k)) in
      let rest = rec s in
      let a = sum_by-cons g x xs in
      let b = sum_by-cons f x xs in
      omega (arith, a, b, rest, here)

  pub sums_kept : (xs : List A) → at p n xs ≡ None → sum_by g xs ≡ sum_by f xs
  sums_kept [] s = refl
  sums_kept (x ∷ xs) s = kept_step x xs (int_eq (p x) n) refl s (sums_kept xs)

module _ {X : Type 0} (p q : X → Bool) where
  or_step : (x : X) (xs : List X) (a b : Bool) → q x ≡ b
      → length (filter (λ y. p y || q y) xs) ≡ length (filter q xs) + count_by (λ y. not (q y)) (filter p xs)
      → length (cond (a || b) (x ∷ filter (λ y. p y || q y) xs) (filter (λ y. p y || q y) xs))
      ≡ length (cond b (x ∷ filter q xs) (filter q xs)) + count_by (λ y. not (q y)) (cond a (x ∷ filter p xs) (filter p xs))
  or_step x xs true true e h =
      let s = sum_by-cons (λ y. cond (not (q y)) 1 0) x (filter p xs) in
      let t : ◌≡◌ {A = ℕ} (cond (not (q x)) 1 0) 0 = ap (λ (b : Bool). cond {A = ℕ} (not b) 1 0) e in
      omega (arith, s, t, h)
  or_step x xs true false e h =
      let s = sum_by-cons (λ y. cond (not (q y)) 1 0) x (filter p xs) in
      let t : ◌≡◌ {A = ℕ} (cond (not (q x)) 1 0) 1 = ap (λ (b : Bool). cond {A = ℕ} (not b) 1 0) e in
      omega (arith, s, t, h)
  or_step x xs false true e h = omega (arith, h)
  or_step x xs false false e h = h

  -- of elements that pass either test: those that pass the one, and of those that pass the other the rest
  pub count_or : (xs : List X) → length (filter (λ x. p x || q x) xs) ≡ length (filter q xs) + count_by (λ x. not (q x)) (filter p xs)
  count_or [] = refl
  count_or (x ∷ xs) = or_step x xs (p x) (q x) refl (count_or xs)

  same_step : (x : X) (ys zs : List X) → p x ≡ q x → ys ≡ zs → cond (p x) (x ∷ ys) ys ≡ cond (q x) (x ∷ zs) zs
  same_step x ys zs e f = rw (e, f) refl

  -- tests that agree on a list keep the same of it
  pub filter_same : (xs : List X) → All (λ x. p x ≡ q x) xs → filter p xs ≡ filter q xs
  filter_same [] h = refl
  filter_same (x ∷ xs) h = same_step x (filter p xs) (filter q xs) (All-head (λ x. p x ≡ q x) x xs h) (filter_same xs (All-tail (λ x. p x ≡ q x) x xs h))
