-- A rising list as what stands before a number, the element at it, if there is one, and what stands after it.
use Rattle.std.specs.Prelude.{◌≡◌, ◌≢◌, Bool, true, false, List, [], ◌∷◌, ◌++◌, ℤ, ◌<ℤ◌, int_lt, Option, Some, None, option_to_list, cond, All, ◌⊎◌}
use Rattle.std.specs.Ordering.{int_eq}
use Rattle.std.proofs.Common.{arith, refl, ap, sym, ◌∙◌, subst, inl, inr}
use Rattle.std.proofs.lemmas.Int.{ints, by_lt_z}
use Rattle.std.proofs.lemmas.List.Elements.{All-cons, All-nil, All-weaker, All-append}
use Rattle.std.proofs.lemmas.Bool.Decides.{Decides-int_eq}
use Rattle.rising.specs.Lists.{IsRising, before, after, at, put}
use Rattle.rising.proofs.Selecting.{filter_none, AllPairs-head, AllPairs-tail}
use Rattle.rising.proofs.Parting.{IsAfter, lt_yes, lt_no, all_after, after_is_after}
use Rattle.rising.proofs.Placing.{IsBefore, IsFrom, before_is_before, some_stands, none_stands, passed_over}

pub compared : (x y : ℤ) → (x <ℤ y) ⊎ ((x ≡ y) ⊎ (y <ℤ x))
compared x y =
    by_lt_z x y (λ h. inl h) (λ h. by_lt_z y x (λ k. inr (inr k)) (λ k. inr (inl (omega (arith, ints)))))

module _ {X : Type 0} (place : X → ℤ) where
  abbrev pub IsAt : ℤ → X → Type 0
  IsAt n x = place x ≡ n

  -- lists about a number
  pub record IsAbout (n : ℤ) (xs ms ys : List X) : Type 0 where
    pub below : All (IsBefore place n) xs
    pub here : All (IsAt n) ms
    pub above : All (IsAfter place n) ys

  -- a rising list without its first element, and what follows that one
  pub rest_rises : (x : X) (xs : List X) → IsRising place (x ∷ xs) → IsRising place xs
  rest_rises x xs h = AllPairs-tail (λ a b. place a <ℤ place b) x xs h

  pub rest_is_later : (x : X) (xs : List X) → IsRising place (x ∷ xs) → All (IsAfter place (place x)) xs
  rest_is_later x xs h = AllPairs-head (λ a b. place a <ℤ place b) x xs h

  pub none_before : (n : ℤ) (xs : List X) → All (IsFrom place n) xs → before place n xs ≡ []
  none_before n xs h =
      filter_none (λ x. int_lt (place x) n) xs (All-weaker (IsFrom place n) (λ x. int_lt (place x) n ≡ false) (λ x k. lt_no (place x) n k) xs h)

  -- the parts of a rising list make it up
  abbrev parts : ℤ → List X → List X
  parts n xs = before place n xs ++ (option_to_list (at place n xs) ++ after place n xs)

  parts_are : (n : ℤ) (ys bs cs : List X) (o : Option X) → before place n ys ≡ bs → at place n ys ≡ o → after place n ys ≡ cs
      → parts n ys ≡ bs ++ (option_to_list o ++ cs)
  parts_are n ys bs cs o e f g = rw (e, f, g) refl

  whole_step : (n : ℤ) (x : X) (xs : List X) → All (IsAfter place (place x)) xs → xs ≡ parts n xs
      → (place x <ℤ n) ⊎ ((place x ≡ n) ⊎ (n <ℤ place x)) → x ∷ xs ≡ parts n (x ∷ xs)
  whole_step n x xs h s (inl k) =
      let a = lt_yes (place x) n k in
      let c : int_lt n (place x) ≡ false = lt_no n (place x) (omega (arith, ints, k)) in
      let bs : before place n (x ∷ xs) ≡ x ∷ before place n xs = rw a refl in
      let o = passed_over place n x xs (λ e. omega (arith, ints, k, e)) in
      let cs : after place n (x ∷ xs) ≡ after place n xs = rw c refl in
      ap (λ l. x ∷ l) s ∙ sym (parts_are n (x ∷ xs) (x ∷ before place n xs) (after place n xs) (at place n xs) bs o cs)
  whole_step n x xs h s (inr (inl k)) =
      let a : int_lt (place x) n ≡ false = lt_no (place x) n (omega (arith, ints, k)) in
      let c : int_lt n (place x) ≡ false = lt_no n (place x) (omega (arith, ints, k)) in
      let later : All (IsAfter place n) xs = All-weaker (IsAfter place (place x)) (IsAfter place n) (λ y l. omega (arith, ints, k, l)) xs h in
      let gone = none_before n xs (All-weaker (IsAfter place n) (IsFrom place n) (λ y l. omega (arith, ints, l)) xs later) in
      let all = all_after place n xs later in
      let bs : before place n (x ∷ xs) ≡ [] = rw a gone in
      let cs : after place n (x ∷ xs) ≡ xs = rw c all in
      sym (parts_are n (x ∷ xs) [] xs (Some x) bs (some_stands place n x xs k) cs)
  whole_step n x xs h s (inr (inr k)) =
      let a : int_lt (place x) n ≡ false = lt_no (place x) n (omega (arith, ints, k)) in
      let c = lt_yes n (place x) k in
      let later : All (IsAfter place n) xs = All-weaker (IsAfter place (place x)) (IsAfter place n) (λ y l. omega (arith, ints, k, l)) xs h in
      let gone = none_before n xs (All-weaker (IsAfter place n) (IsFrom place n) (λ y l. omega (arith, ints, l)) xs later) in
      let all = all_after place n xs later in
      let bs : before place n (x ∷ xs) ≡ [] = rw a gone in
      let o = none_stands place n (x ∷ xs) (All-cons (IsAfter place n) x xs k later) in
      let cs : after place n (x ∷ xs) ≡ x ∷ xs = rw c (ap (λ l. x ∷ l) all) in
      sym (parts_are n (x ∷ xs) [] (x ∷ xs) None bs o cs)

  pub whole : (n : ℤ) (xs : List X) → IsRising place xs → xs ≡ parts n xs
  whole n [] h = refl
  whole n (x ∷ xs) h = whole_step n x xs (rest_is_later x xs h) (whole n xs (rest_rises x xs h)) (compared (place x) n)

  -- and stand about the number
  at_step : (n : ℤ) (x : X) (b : Bool) (o : Option X) → int_eq (place x) n ≡ b → All (IsAt n) (option_to_list o)
      → All (IsAt n) (option_to_list (cond b (Some x) o))
  at_step n x true o h k = All-cons (IsAt n) x [] ((Decides-int_eq (place x) n).0 h) (All-nil (IsAt n))
  at_step n x false o h k = k

  pub at_is_at : (n : ℤ) (xs : List X) → All (IsAt n) (option_to_list (at place n xs))
  at_is_at n [] = All-nil (IsAt n)
  at_is_at n (x ∷ xs) = at_step n x (int_eq (place x) n) (at place n xs) refl (at_is_at n xs)

  pub about : (n : ℤ) (xs : List X) → IsAbout n (before place n xs) (option_to_list (at place n xs)) (after place n xs)
  about n xs = record { below = before_is_before place n xs; here = at_is_at n xs; above = after_is_after place n xs }

  -- a put of what stands there already changes nothing
  pub put_same : (x : X) (xs : List X) → IsRising place xs → at place (place x) xs ≡ Some x → put place x xs ≡ xs
  put_same x xs h e =
      sym (whole (place x) xs h ∙ ap (λ (o : Option X). before place (place x) xs ++ (option_to_list o ++ after place (place x) xs)) e)

  -- what is not found at its place is not in the list
  option_other : (x : X) (o : Option X) → (o ≡ Some x → ⊥) → All (λ y. y ≢ x) (option_to_list o)
  option_other x None k = All-nil (λ y. y ≢ x)
  option_other x (Some y) k = All-cons (λ y. y ≢ x) y [] (λ e. k (ap Some e)) (All-nil (λ y. y ≢ x))

  pub not_there : (x : X) (xs : List X) → IsRising place xs → (at place (place x) xs ≡ Some x → ⊥) → All (λ y. y ≢ x) xs
  not_there x xs h other =
      let below : All (λ y. y ≢ x) (before place (place x) xs) =
      All-weaker (IsBefore place (place x)) (λ y. y ≢ x) (λ y l e. let f : place y ≡ place x = ap place e in absurd (omega (arith, ints, l, f)))
      (before place (place x) xs) (before_is_before place (place x) xs) in
      let above : All (λ y. y ≢ x) (after place (place x) xs) =
      All-weaker (IsAfter place (place x)) (λ y. y ≢ x) (λ y l e. let f : place y ≡ place x = ap place e in absurd (omega (arith, ints, l, f)))
      (after place (place x) xs) (after_is_after place (place x) xs) in
      subst (λ (l : List X). All (λ y. y ≢ x) l) (sym (whole (place x) xs h))
      (All-append (λ y. y ≢ x) (before place (place x) xs) (option_to_list (at place (place x) xs) ++ after place (place x) xs) below
      (All-append (λ y. y ≢ x) (option_to_list (at place (place x) xs)) (after place (place x) xs) (option_other x (at place (place x) xs) other) above))
