-- Two rising lists that give the same at every number give the same as a whole.
use Rattle.std.specs.Prelude.{◌≡◌, ℕ, ◌+◌, List, [], ◌∷◌, ◌++◌, sum_by, Option, Some, None, ℤ, ◌<ℤ◌, ◌≤ℤ◌}
use Rattle.std.specs.List.{flat_map}
use Rattle.std.proofs.Common.{arith, refl, ap, sym, ◌∙◌, inl, inr, zero-add}
use Rattle.std.proofs.lemmas.Int.{ints}
use Rattle.std.proofs.lemmas.List.Elements.{All-weaker, All-cons}
use Rattle.std.proofs.lemmas.List.Sums.{sum_by-cons}
use Rattle.rising.specs.Lists.{IsRising, at}
use Rattle.rising.proofs.Parting.{IsAfter}
use Rattle.rising.proofs.Placing.{none_stands, some_stands, passed_over}
use Rattle.rising.proofs.Splitting.{compared, rest_rises, rest_is_later}

-- what an element gives, where there is one
abbrev pub given : {A M : Type 0} → M → (A → M) → Option A → M
given e f None = e
given e f (Some a) = f a

-- both lists give the same at every number
abbrev pub Same : {A B M : Type 0} → M → (A → ℤ) → (B → ℤ) → (A → M) → (B → M) → List A → List B → Type 0
Same e pa pb f g xs ys = (n : ℤ) → given e f (at pa n xs) ≡ given e g (at pb n ys)

-- the elements give one after the other
pub gather : {A M : Type 0} → (M → M → M) → M → (A → M) → List A → M
gather op e f [] = e
gather op e f (x ∷ xs) = op (f x) (gather op e f xs)

module _ {A : Type 0} (p : A → ℤ) where
  -- what stands in the rest, by its number
  none_up_to_first : (x : A) (xs : List A) (n : ℤ) → IsRising p (x ∷ xs) → n ≤ℤ p x → at p n xs ≡ None
  none_up_to_first x xs n h l =
      none_stands p n xs (All-weaker (IsAfter p (p x)) (IsAfter p n) (λ y k. omega (arith, ints, l, k)) xs (rest_is_later p x xs h))

  none_before_first : (x : A) (xs : List A) (n : ℤ) → IsRising p (x ∷ xs) → n <ℤ p x → at p n (x ∷ xs) ≡ None
  none_before_first x xs n h l =
      none_stands p n (x ∷ xs) (All-cons (IsAfter p n) x xs l
      (All-weaker (IsAfter p (p x)) (IsAfter p n) (λ y k. omega (arith, ints, l, k)) xs (rest_is_later p x xs h)))

  behind_first : (x : A) (xs : List A) (n : ℤ) → p x <ℤ n → at p n (x ∷ xs) ≡ at p n xs
  behind_first x xs n l = passed_over p n x xs (λ e. omega (arith, ints, l, e))

by_le : {P : Type 0} (n m : ℤ) → (n ≤ℤ m → P) → (m <ℤ n → P) → P
by_le n m a b =
    elim (compared n m) [
      | inl l ↦ a (omega (arith, ints, l))
      | inr r ↦ elim r [ inl e ↦ a (omega (arith, ints, e)) | inr g ↦ b g ]
    ]

module _ {A B M : Type 0} (op : M → M → M) (e : M) (unit : (m : M) → op e m ≡ m) (pa : A → ℤ) (pb : B → ℤ) (f : A → M) (g : B → M) where
  both_rest : (x : A) (xs : List A) (y : B) (ys : List B) → IsRising pa (x ∷ xs) → IsRising pb (y ∷ ys) → pa x ≡ pb y
      → Same e pa pb f g (x ∷ xs) (y ∷ ys) → Same e pa pb f g xs ys
  both_rest x xs y ys h k same s n =
      by_le n (pa x)
      (λ l. ap (given e f) (none_up_to_first pa x xs n h l) ∙ sym (ap (given e g) (none_up_to_first pb y ys n k (omega (arith, ints, l, same)))))
      (λ l. ap (given e f) (sym (behind_first pa x xs n l)) ∙ s n ∙ ap (given e g) (behind_first pb y ys n (omega (arith, ints, l, same))))

  left_rest : (x : A) (xs : List A) (y : B) (ys : List B) → IsRising pa (x ∷ xs) → IsRising pb (y ∷ ys) → pa x <ℤ pb y
      → Same e pa pb f g (x ∷ xs) (y ∷ ys) → Same e pa pb f g xs (y ∷ ys)
  left_rest x xs y ys h k l s n =
      by_le n (pa x)
      (λ m. ap (given e f) (none_up_to_first pa x xs n h m) ∙ sym (ap (given e g) (none_before_first pb y ys n k (omega (arith, ints, l, m)))))
      (λ m. ap (given e f) (sym (behind_first pa x xs n m)) ∙ s n)

  right_rest : (x : A) (xs : List A) (y : B) (ys : List B) → IsRising pa (x ∷ xs) → IsRising pb (y ∷ ys) → pb y <ℤ pa x
      → Same e pa pb f g (x ∷ xs) (y ∷ ys) → Same e pa pb f g (x ∷ xs) ys
  right_rest x xs y ys h k l s n =
      by_le n (pb y)
      (λ m. ap (given e f) (none_before_first pa x xs n h (omega (arith, ints, l, m))) ∙ sym (ap (given e g) (none_up_to_first pb y ys n k m)))
      (λ m. s n ∙ ap (given e g) (behind_first pb y ys n m))

  none_left : (xs : List A) → IsRising pa xs → Same e pa pb f g xs [] → gather op e f xs ≡ e
  unfolding gather
  none_left [] h s = refl
  none_left (x ∷ xs) h s =
      let gone : f x ≡ e = ap (given e f) (sym (some_stands pa (pa x) x xs refl)) ∙ s (pa x) in
      ap (λ m. op m (gather op e f xs)) gone ∙ unit (gather op e f xs)
      ∙ none_left xs (rest_rises pa x xs h) (λ n. by_le n (pa x)
      (λ m. ap (given e f) (none_up_to_first pa x xs n h m)) (λ m. ap (given e f) (sym (behind_first pa x xs n m)) ∙ s n))

  none_right : (ys : List B) → IsRising pb ys → Same e pa pb f g [] ys → e ≡ gather op e g ys
  unfolding gather
  none_right [] k s = refl
  none_right (y ∷ ys) k s =
      let gone : g y ≡ e = ap (given e g) (sym (some_stands pb (pb y) y ys refl)) ∙ sym (s (pb y)) in
      none_right ys (rest_rises pb y ys k) (λ n. by_le n (pb y)
      (λ m. sym (ap (given e g) (none_up_to_first pb y ys n k m))) (λ m. s n ∙ ap (given e g) (behind_first pb y ys n m)))
      ∙ sym (ap (λ m. op m (gather op e g ys)) gone ∙ unit (gather op e g ys))

  along : (x : A) (xs : List A)
      → ((ys : List B) → IsRising pa xs → IsRising pb ys → Same e pa pb f g xs ys → gather op e f xs ≡ gather op e g ys)
      → (ys : List B) → IsRising pa (x ∷ xs) → IsRising pb ys → Same e pa pb f g (x ∷ xs) ys → gather op e f (x ∷ xs) ≡ gather op e g ys
  unfolding gather
  along x xs rec [] h k s = none_left (x ∷ xs) h s
  along x xs rec (y ∷ ys) h k s =
      elim (compared (pa x) (pb y)) [
        | inl l ↦
            let gone : f x ≡ e =
            ap (given e f) (sym (some_stands pa (pa x) x xs refl)) ∙ s (pa x) ∙ ap (given e g) (none_before_first pb y ys (pa x) k l) in
            ap (λ m. op m (gather op e f xs)) gone ∙ unit (gather op e f xs)
            ∙ rec (y ∷ ys) (rest_rises pa x xs h) k (left_rest x xs y ys h k l s)
        | inr r ↦ elim r [
          | inl same ↦
              let here : f x ≡ g y =
              ap (given e f) (sym (some_stands pa (pa x) x xs refl)) ∙ s (pa x) ∙ ap (given e g) (some_stands pb (pa x) y ys (sym same)) in
              ap (λ m. op m (gather op e f xs)) here
              ∙ ap (op (g y)) (rec ys (rest_rises pa x xs h) (rest_rises pb y ys k) (both_rest x xs y ys h k same s))
          | inr l ↦
              let gone : g y ≡ e =
              ap (given e g) (sym (some_stands pb (pb y) y ys refl)) ∙ sym (s (pb y)) ∙ ap (given e f) (none_before_first pa x xs (pb y) h l) in
              along x xs rec ys h (rest_rises pb y ys k) (right_rest x xs y ys h k l s)
              ∙ sym (ap (λ m. op m (gather op e g ys)) gone ∙ unit (gather op e g ys))
        ]
      ]

  pub merged : (xs : List A) (ys : List B) → IsRising pa xs → IsRising pb ys → Same e pa pb f g xs ys → gather op e f xs ≡ gather op e g ys
  unfolding gather
  merged [] ys h k s = none_right ys k s
  merged (x ∷ xs) ys h k s = along x xs (merged xs) ys h k s

gathered_list : {A X : Type 0} (f : A → List X) (xs : List A) → flat_map f xs ≡ gather (λ a b. a ++ b) [] f xs
unfolding gather
gathered_list f [] = refl
gathered_list f (x ∷ xs) = ap (λ l. f x ++ l) (gathered_list f xs)

gathered_sum : {A : Type 0} (f : A → ℕ) (xs : List A) → sum_by f xs ≡ gather (λ a b. a + b) 0 f xs
unfolding gather
gathered_sum f [] = refl
gathered_sum f (x ∷ xs) = sum_by-cons f x xs ∙ ap (λ n. f x + n) (gathered_sum f xs)

module _ {A B X : Type 0} (pa : A → ℤ) (pb : B → ℤ) (f : A → List X) (g : B → List X) where
  pub merged_lists : (xs : List A) (ys : List B) → IsRising pa xs → IsRising pb ys → Same [] pa pb f g xs ys → flat_map f xs ≡ flat_map g ys
  merged_lists xs ys h k s = gathered_list f xs ∙ merged (λ a b. a ++ b) [] (λ m. refl) pa pb f g xs ys h k s ∙ sym (gathered_list g ys)

module _ {A B : Type 0} (pa : A → ℤ) (pb : B → ℤ) (f : A → ℕ) (g : B → ℕ) where
  pub merged_sums : (xs : List A) (ys : List B) → IsRising pa xs → IsRising pb ys → Same 0 pa pb f g xs ys → sum_by f xs ≡ sum_by g ys
  merged_sums xs ys h k s = gathered_sum f xs ∙ merged (λ a b. a + b) 0 zero-add pa pb f g xs ys h k s ∙ sym (gathered_sum g ys)
