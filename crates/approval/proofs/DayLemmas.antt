-- Standings that rise, walked along with days.
use Rattle.std.specs.Prelude.{◌≡◌, ℕ, ◌≤◌, Bool, true, false, cond, List, [], ◌∷◌, ◌&&◌, length, take, filter, None, ℤ, pos, ◌+ℤ◌, ◌≤ℤ◌, int_lt, int_le, All}
use Rattle.std.proofs.Common.{arith, refl, ap, sym, subst, ◌∙◌}
use Rattle.std.proofs.lemmas.Bool.Decides.{Decides-int_eq}
use Rattle.std.proofs.lemmas.Int.{ints}
use Rattle.std.proofs.lemmas.List.{length-take-le}
use Rattle.std.proofs.lemmas.List.Elements.{All-nil, filter_agree, filter_passes}
use Rattle.rising.specs.Lists.{IsRising, before, from, up_to, after, at}
use Rattle.rising.proofs.Parting.{le_yes, yes_lt}
use Rattle.rising.proofs.Selecting.{filter_all, filter_both}
use Rattle.rising.proofs.Placing.{IsBefore, IsFrom, IsParted, at_filter, elsewhere_after, elsewhere_stands, filter_rises, from_is_from, here_after, rest_later}

module _ {X : Type 0} (place : X → ℤ) where
  -- where none is earlier than a number
  none_earlier : (n : ℤ) (xs : List X) → IsRising place xs → xs ≡ from place n xs → IsParted place n xs [] xs
  none_earlier n xs h e = record {
    whole = refl;
    below = All-nil (IsBefore place n);
    rest = subst (λ (l : List X). All (IsFrom place n) l) (sym e) (from_is_from place n xs);
    rising = h;
  }

  -- the first stands at it
  pub first_here : (n : ℤ) (xs : List X) (x : X) (ys : List X) → IsRising place xs → xs ≡ from place n xs → xs ≡ x ∷ ys → place x ≡ n → ys ≡ after place n xs
  first_here n xs x ys h e w k = sym (here_after place n xs [] xs ys x (none_earlier n xs h e) w k)

  -- or it does not
  other : (n : ℤ) (xs : List X) (x : X) (ys : List X) → xs ≡ x ∷ ys → (place x ≡ n → ⊥) → (z : X) (zs : List X) → xs ≡ z ∷ zs → place z ≡ n → ⊥
  other n xs x ys w k z zs v e = k (let same : x ≡ z = cc in ap place same ∙ e)

  pub first_later : (n : ℤ) (xs : List X) (x : X) (ys : List X) → IsRising place xs → xs ≡ from place n xs → xs ≡ x ∷ ys → (place x ≡ n → ⊥)
      → (None ≡ at place n xs) × (xs ≡ after place n xs)
  first_later n xs x ys h e w k =
      let p = none_earlier n xs h e in
      let later = rest_later place n xs h p.rest (other n xs x ys w k) in
      (sym (elsewhere_stands place n xs [] xs p later), sym (elsewhere_after place n xs [] xs p later))

  -- of those from a number on, what is found at it, and those from the next number on
  pub found_there : (n : ℤ) (xs ys : List X) → ys ≡ from place n xs → at place n ys ≡ at place n xs
  found_there n xs ys e =
      ap (at place n) e
      ∙ at_filter place n (λ x. int_le n (place x)) (λ x k. let s : place x ≡ n = (Decides-int_eq (place x) n).0 k in grind (arith, ints, s)) xs

  next_from : (n : ℤ) (x : X) → (int_le n (place x) && int_lt n (place x)) ≡ int_le (n +ℤ pos 1) (place x)
  next_from n x = grind (arith, ints)

  pub later_ones : (n m : ℤ) (xs ys zs : List X) → m ≡ n +ℤ pos 1 → ys ≡ from place n xs → zs ≡ after place n ys → zs ≡ from place m xs
  later_ones n m xs ys zs s e f =
      f ∙ ap (after place n) e ∙ filter_both (λ x. int_le n (place x)) (λ x. int_lt n (place x)) xs
      ∙ filter_agree (λ x. int_le n (place x) && int_lt n (place x)) (λ x. int_le (n +ℤ pos 1) (place x)) (next_from n) xs
      ∙ ap (λ (k : ℤ). from place k xs) (sym s)

  -- no more stand before a number than up to a later one
  fewer_step : (b c : Bool) (x : X) (ps qs : List X) → (b ≡ true → c ≡ true) → length ps ≤ length qs → length (cond b (x ∷ ps) ps) ≤ length (cond c (x ∷ qs) qs)
  fewer_step true true x ps qs h k = omega arith
  fewer_step true false x ps qs h k = absurd (let e = h refl in cc)
  fewer_step false true x ps qs h k = omega arith
  fewer_step false false x ps qs h k = k

  fewer : (p q : X → Bool) → ((x : X) → p x ≡ true → q x ≡ true) → (xs : List X) → length (filter p xs) ≤ length (filter q xs)
  fewer p q h [] = omega arith
  fewer p q h (x ∷ xs) = fewer_step (p x) (q x) x (filter p xs) (filter q xs) (h x) (fewer p q h xs)

  pub in_order : (n m : ℤ) (xs : List X) (i j : ℕ) → n ≤ℤ m → i ≤ length xs → j ≤ length xs → take i xs ≡ before place n xs → take j xs ≡ up_to place m xs → i ≤ j
  in_order n m xs i j o k l e f =
      let more : length (before place n xs) ≤ length (up_to place m xs) =
      fewer (λ x. int_lt (place x) n) (λ x. int_le (place x) m) (λ x t. let a = yes_lt (place x) n t in le_yes (place x) m (omega (arith, ints, o, a))) xs in
      omega (arith, length-take-le i xs k, length-take-le j xs l, ap length e, ap length f, more)

  pub from_again : (n : ℤ) (xs ys : List X) → ys ≡ from place n xs → ys ≡ from place n ys
  from_again n xs ys e = e ∙ sym (ap (from place n) e ∙ filter_all (λ x. int_le n (place x)) (from place n xs) (filter_passes (λ x. int_le n (place x)) xs))

  pub from_rises : (n : ℤ) (xs ys : List X) → IsRising place xs → ys ≡ from place n xs → IsRising place ys
  from_rises n xs ys h e = subst (λ (l : List X). IsRising place l) (sym e) (filter_rises place (λ x. int_le n (place x)) xs h)
