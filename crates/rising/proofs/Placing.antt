-- A rising list about a number: what stands before it, the element n it, if there is one, and what stands after it.
use Rattle.std.specs.Prelude.{◌≡◌, Bool, true, false, List, [], ◌∷◌, ◌++◌, ℕ, suc, ◌+◌, ◌<◌, ◌≤◌, ℤ, ◌<ℤ◌, ◌≤ℤ◌, int_lt, int_le, take, drop, set, length, slice_get, Option, Some, None, filter, cond, All}
use Rattle.std.specs.Ordering.{int_eq}
use Rattle.std.proofs.Common.{arith, refl, ap, sym, ◌∙◌, get_or, subst, drop-cons}
use Rattle.std.proofs.lemmas.Int.{ints, by_lt_z}
use Rattle.std.proofs.lemmas.List.{take-append-drop, take-set, drop-set, length-drop, get_or_default}
use Rattle.std.proofs.lemmas.List.Elements.{All-head, All-tail, All-cons, All-nil, All-weaker, All-append, All-filter, filter_passes, filter-append}
use Rattle.std.proofs.lemmas.List.Kept.{AllPairs-cons, AllPairs-filter}
use Rattle.std.proofs.lemmas.Bool.Decides.{Decides-int_eq}
use Rattle.rising.specs.Lists.{IsRising, before, from, after, at, without, put}
use Rattle.rising.proofs.Selecting.{AllPairs-head, AllPairs-append, slice_get_at}
use Rattle.rising.proofs.Parting.{IsUpTo, IsAfter, yes_lt, yes_le, lt_yes, all_after, none_after, after_is_after}

module _ {X : Type 0} (place : X → ℤ) where
  -- where an element stands about a number
  abbrev pub IsBefore : ℤ → X → Type 0
  IsBefore n e = (place e) <ℤ n

  abbrev pub IsFrom : ℤ → X → Type 0
  IsFrom n e = n ≤ℤ (place e)

  pub before_is_before : (n : ℤ) (es : List X) → All (IsBefore n) ((before place) n es)
  before_is_before n es =
      All-weaker (λ e. int_lt (place e) n ≡ true) (IsBefore n) (λ e k. yes_lt (place e) n k) ((before place) n es) (filter_passes (λ e. int_lt (place e) n) es)

  pub from_is_from : (n : ℤ) (es : List X) → All (IsFrom n) ((from place) n es)
  from_is_from n es =
      All-weaker (λ e. int_le n (place e) ≡ true) (IsFrom n) (λ e k. yes_le n (place e) k) ((from place) n es) (filter_passes (λ e. int_le n (place e)) es)

  not_equal : (x y : ℤ) (b : Bool) → int_eq x y ≡ b → (x ≡ y → ⊥) → int_eq x y ≡ false
  not_equal x y true h k = absurd (k ((Decides-int_eq x y).0 h))
  not_equal x y false h k = h

  is_other : (x y : ℤ) → (x ≡ y → ⊥) → int_eq x y ≡ false
  is_other x y k = not_equal x y (int_eq x y) refl k

  -- the element n the number, or none
  pub some_stands : (n : ℤ) (e : X) (es : List X) → place e ≡ n → at place n (e ∷ es) ≡ Some e
  some_stands n e es h = let f : int_eq (place e) n ≡ true = (Decides-int_eq (place e) n).1 h in rw f refl

  pub none_stands : (n : ℤ) (es : List X) → All (IsAfter place n) es → at place n es ≡ None
  none_stands n [] h = refl
  none_stands n (e ∷ es) h =
      let later = All-head (IsAfter place n) e es h in
      let f : int_eq (place e) n ≡ false = is_other (place e) n (λ k. omega (arith, ints, later, k)) in
      rw f (none_stands n es (All-tail (IsAfter place n) e es h))

  pub stands_behind : (n : ℤ) (xs ys : List X) → All (IsBefore n) xs → at place n (xs ++ ys) ≡ at place n ys
  stands_behind n [] ys h = refl
  stands_behind n (x ∷ xs) ys h =
      let earlier = All-head (IsBefore n) x xs h in
      let f : int_eq (place x) n ≡ false = is_other (place x) n (λ k. omega (arith, ints, earlier, k)) in
      rw f (stands_behind n xs ys (All-tail (IsBefore n) x xs h))

  pub after_behind : (n : ℤ) (xs ys : List X) → All (IsBefore n) xs → after place n (xs ++ ys) ≡ after place n ys
  after_behind n xs ys h =
      let gone : after place n xs ≡ [] = none_after place n xs (All-weaker (IsBefore n) (IsUpTo place n) (λ e k. omega (arith, ints, k)) xs h) in
      filter-append (λ e. int_lt n (place e)) xs ys ∙ rw gone refl

  -- a rising list that is parted n an instant
  pub record IsParted (n : ℤ) (es xs ys : List X) : Type 0 where
    pub whole : es ≡ xs ++ ys
    pub below : All (IsBefore n) xs
    pub rest : All (IsFrom n) ys
    pub rising : (IsRising place) ys

  pub parted : (n : ℤ) (es : List X) (i : ℕ) → (IsRising place) es → take i es ≡ (before place) n es → drop i es ≡ (from place) n es
      → IsParted n es (take i es) (drop i es)
  parted n es i h front back = record {
    whole = sym (take-append-drop i es);
    below = subst (λ (l : List X). All (IsBefore n) l) (sym front) (before_is_before n es);
    rest = subst (λ (l : List X). All (IsFrom n) l) (sym back) (from_is_from n es);
    rising = subst (IsRising place) (sym back) (AllPairs-filter (λ e f. (place e) <ℤ (place f)) (λ e. int_le n (place e)) es h);
  }

  -- the first of the rest stands n the instant
  pub here_stands : (n : ℤ) (es xs ys zs : List X) (z : X) → IsParted n es xs ys → ys ≡ z ∷ zs → (place z) ≡ n → at place n es ≡ Some z
  here_stands n es xs ys zs z p e k =
      let w = p.whole in
      let f = stands_behind n xs ys p.below in
      let g = some_stands n z zs k in
      rw (w, f, e) g

  pub here_after : (n : ℤ) (es xs ys zs : List X) (z : X) → IsParted n es xs ys → ys ≡ z ∷ zs → (place z) ≡ n → after place n es ≡ zs
  here_after n es xs ys zs z p e k =
      let w = p.whole in
      let f = after_behind n xs ys p.below in
      let rises : (IsRising place) (z ∷ zs) = subst (IsRising place) e p.rising in
      let later : All (IsAfter place n) zs =
      All-weaker (λ y. (place z) <ℤ (place y)) (IsAfter place n) (λ y l. omega (arith, ints, l, k)) zs (AllPairs-head (λ a b. (place a) <ℤ (place b)) z zs rises) in
      let first : int_lt n (place z) ≡ false = grind (arith, ints, k) in
      let g = all_after place n zs later in
      rw (w, f, e, first) g

  -- it stands elsewhere, or there is none
  above : (x y : ℤ) → x ≤ℤ y → (y ≡ x → ⊥) → x <ℤ y
  above x y h k = by_lt_z x y (λ l. l) (λ l. absurd (k (omega (arith, ints, h, l))))

  all_later : (n : ℤ) (z : X) (zs : List X) → (IsRising place) (z ∷ zs) → n ≤ℤ (place z) → ((place z) ≡ n → ⊥) → All (IsAfter place n) (z ∷ zs)
  all_later n z zs h l k =
      let later : n <ℤ (place z) = above n (place z) l k in
      All-cons (IsAfter place n) z zs later
      (All-weaker (λ y. (place z) <ℤ (place y)) (IsAfter place n) (λ y m. omega (arith, ints, m, later)) zs (AllPairs-head (λ a b. (place a) <ℤ (place b)) z zs h))

  pub rest_later : (n : ℤ) (ys : List X) → (IsRising place) ys → All (IsFrom n) ys → ((z : X) (zs : List X) → ys ≡ z ∷ zs → (place z) ≡ n → ⊥)
      → All (IsAfter place n) ys
  rest_later n [] h k other = All-nil (IsAfter place n)
  rest_later n (z ∷ zs) h k other = all_later n z zs h (All-head (IsFrom n) z zs k) (other z zs refl)

  pub elsewhere_stands : (n : ℤ) (es xs ys : List X) → IsParted n es xs ys → All (IsAfter place n) ys → at place n es ≡ None
  elsewhere_stands n es xs ys p h =
      let w = p.whole in
      let f = stands_behind n xs ys p.below in
      let g = none_stands n ys h in
      rw (w, f) g

  pub elsewhere_after : (n : ℤ) (es xs ys : List X) → IsParted n es xs ys → All (IsAfter place n) ys → after place n es ≡ ys
  elsewhere_after n es xs ys p h =
      let w = p.whole in
      let f = after_behind n xs ys p.below in
      let g = all_after place n ys h in
      rw (w, f) g

  -- by the place: the element there stands n the instant
  pub place_here : (n : ℤ) (es : List X) (i : ℕ) (d : X) → (IsRising place) es → take i es ≡ (before place) n es → drop i es ≡ (from place) n es → i < length es
      → (place (get_or es i d)) ≡ n → (at place n es ≡ Some (get_or es i d)) × (drop (i + 1) es ≡ after place n es)
  place_here n es i d h front back l k =
      let p = parted n es i h front back in
      let e = drop-cons es i d l in
      let more : suc i ≡ i + 1 = omega arith in (
        here_stands n es (take i es) (drop i es) (drop (suc i) es) (get_or es i d) p e k,
        sym (here_after n es (take i es) (drop i es) (drop (suc i) es) (get_or es i d) p e k ∙ ap (λ j. drop j es) more),
      )

  -- and it does not
  first_of : (es : List X) (i : ℕ) (z : X) (zs : List X) → drop i es ≡ z ∷ zs → (i < length es) × (get_or es i z ≡ z)
  first_of es i z zs e =
      let n : length (drop i es) ≡ suc (length zs) = ap length e in
      let l : i < length es = omega (arith, length-drop i es) in
      let f : get_or es i z ∷ drop (suc i) es ≡ z ∷ zs = sym (drop-cons es i z l) ∙ e in
      (l, cc)

  other_first : (n : ℤ) (es : List X) (i : ℕ) → (i < length es → (d : X) → (place (get_or es i d)) ≡ n → ⊥)
      → (z : X) (zs : List X) → drop i es ≡ z ∷ zs → (place z) ≡ n → ⊥
  other_first n es i other z zs e k =
      let f = first_of es i z zs e in
      other f.0 z (ap (λ (y : X). (place y)) f.1 ∙ k)

  pub place_elsewhere : (n : ℤ) (es : List X) (i : ℕ) → (IsRising place) es → take i es ≡ (before place) n es → drop i es ≡ (from place) n es
      → (i < length es → (d : X) → (place (get_or es i d)) ≡ n → ⊥) → (at place n es ≡ None) × (drop i es ≡ after place n es)
  place_elsewhere n es i h front back other =
      let p = parted n es i h front back in
      let later = rest_later n (drop i es) p.rising p.rest (other_first n es i other) in
      (elsewhere_stands n es (take i es) (drop i es) p later, sym (elsewhere_after n es (take i es) (drop i es) p later))

  -- a list with an element written is its front, the element and its back
  pub set_parts : (es : List X) (i : ℕ) (e : X) → i < length es → set es i e ≡ take i es ++ e ∷ drop (i + 1) es
  set_parts es i e l = sym (take-append-drop i (set es i e)) ∙ rw (take-set es i e, drop-set es i e l) refl

  -- elements before a number, one at it and elements after it rise together
  joined_rise : (e : X) (xs ys : List X) → (IsRising place) xs → (IsRising place) ys → All (IsBefore (place e)) xs → All (IsAfter place (place e)) ys
      → (IsRising place) (xs ++ e ∷ ys)
  joined_rise e xs ys h k l m =
      AllPairs-append (λ a b. (place a) <ℤ (place b)) xs (e ∷ ys) h (AllPairs-cons (λ a b. (place a) <ℤ (place b)) e ys m k)
      (All-weaker (IsBefore (place e)) (λ x. All (IsAfter place (place x)) (e ∷ ys))
      (λ x f. All-cons (IsAfter place (place x)) e ys f (All-weaker (IsAfter place (place e)) (IsAfter place (place x)) (λ y g. omega (arith, ints, f, g)) ys m)) xs l)

  pub put_rises : (e : X) (es : List X) → (IsRising place) es → (IsRising place) ((put place) e es)
  put_rises e es h =
      joined_rise e ((before place) (place e) es) (after place (place e) es)
      (AllPairs-filter (λ a b. (place a) <ℤ (place b)) (λ f. int_lt (place f) (place e)) es h)
      (AllPairs-filter (λ a b. (place a) <ℤ (place b)) (λ f. int_lt (place e) (place f)) es h)
      (before_is_before (place e) es) (after_is_after place (place e) es)

  pub without_rises : (n : ℤ) (es : List X) → (IsRising place) es → (IsRising place) ((without place) n es)
  without_rises n es h =
      AllPairs-append (λ a b. (place a) <ℤ (place b)) ((before place) n es) (after place n es)
      (AllPairs-filter (λ a b. (place a) <ℤ (place b)) (λ f. int_lt (place f) n) es h)
      (AllPairs-filter (λ a b. (place a) <ℤ (place b)) (λ f. int_lt n (place f)) es h)
      (All-weaker (IsBefore n) (λ x. All (IsAfter place (place x)) (after place n es))
      (λ x f. All-weaker (IsAfter place n) (IsAfter place (place x)) (λ y g. omega (arith, ints, f, g)) (after place n es) (after_is_after place n es))
      ((before place) n es) (before_is_before n es))

  -- what the test of the element in the place says
  pub record IsTold (n : ℤ) (es : List X) (i : ℕ) (r : Bool) : Type 0 where
    pub found : r ≡ true → at place n es ≡ slice_get es i
    pub none : r ≡ false → at place n es ≡ None
    pub here : r ≡ true → drop (i + 1) es ≡ after place n es
    pub elsewhere : r ≡ false → drop i es ≡ after place n es

  pub told : (n : ℤ) (es : List X) (i : ℕ) (d : X) (r : Bool) → (IsRising place) es → take i es ≡ (before place) n es → drop i es ≡ (from place) n es
      → i < length es → r ≡ int_eq (place (get_or es i d)) n → IsTold n es i r
  told n es i d true h front back l e =
      let here = place_here n es i d h front back l ((Decides-int_eq (place (get_or es i d)) n).0 (sym e)) in
      record { found = λ k. here.0 ∙ sym (slice_get_at es i (get_or es i d) l (get_or_default es i (get_or es i d) d l)); none = λ k. absurd (cc); here = λ k. here.1; elsewhere = λ k. absurd (cc) }
  told n es i d false h front back l e =
      let other : (f : X) → (place (get_or es i f)) ≡ n → ⊥ = λ f k.
      let g : get_or es i f ≡ get_or es i d = get_or_default es i f d l in
      let t : int_eq (place (get_or es i d)) n ≡ true = (Decides-int_eq (place (get_or es i d)) n).1 (ap (λ (x : X). (place x)) (sym g) ∙ k) in
      absurd (cc) in
      let away = place_elsewhere n es i h front back (λ _ f k. other f k) in
      record { found = λ k. absurd (cc); none = λ k. away.0; here = λ k. absurd (cc); elsewhere = λ k. away.1 }

  -- and there is none in it
  pub told_none : (n : ℤ) (es : List X) (i : ℕ) (r : Bool) → (IsRising place) es → take i es ≡ (before place) n es → drop i es ≡ (from place) n es
      → length es ≤ i → r ≡ false → IsTold n es i r
  told_none n es i r h front back l e =
      let away = place_elsewhere n es i h front back (λ k d f. absurd (omega arith)) in
      record { found = λ k. absurd (cc); none = λ k. away.0; here = λ k. absurd (cc); elsewhere = λ k. away.1 }

  -- the list with the element put, by a write where one stands n its instant, and by an insertion where none does
  pub write_is_put : (e : X) (es : List X) (i : ℕ) → i < length es → take i es ≡ (before place) (place e) es → drop (i + 1) es ≡ after place (place e) es
      → set es i e ≡ (put place) e es
  write_is_put e es i l front back = set_parts es i e l ∙ rw (front, back) refl

  -- the element at a number after a put and after a take
  pub at_put : (x : X) (xs : List X) → at place (place x) (put place x xs) ≡ Some x
  at_put x xs =
      stands_behind (place x) (before place (place x) xs) (x ∷ after place (place x) xs) (before_is_before (place x) xs)
      ∙ some_stands (place x) x (after place (place x) xs) refl

  -- an element that is elsewhere is found in the one part or the other, as in the whole
  at_step : (n : ℤ) (b : Bool) (x : X) (r s : Option X) → int_eq (place x) n ≡ b → r ≡ s → cond b (Some x) r ≡ cond b (Some x) s
  at_step n b x r s e f = ap (λ o. cond b (Some x) o) f

  at_filter_step : (n : ℤ) (p : X → Bool) (x : X) (b c : Bool) (xs : List X) → int_eq (place x) n ≡ b → p x ≡ c → (b ≡ true → c ≡ true)
      → at place n (filter p xs) ≡ at place n xs → at place n (cond c (x ∷ filter p xs) (filter p xs)) ≡ at place n (x ∷ xs)
  at_filter_step n p x true true xs e f h i = rw e refl
  at_filter_step n p x true false xs e f h i = absurd (let w = h refl in cc)
  at_filter_step n p x false true xs e f h i = rw e i
  at_filter_step n p x false false xs e f h i = rw e i

  -- a filter that keeps what stands at a number keeps what is found there
  pub at_filter : (n : ℤ) (p : X → Bool) → ((x : X) → int_eq (place x) n ≡ true → p x ≡ true) → (xs : List X) → at place n (filter p xs) ≡ at place n xs
  at_filter n p h [] = refl
  at_filter n p h (x ∷ xs) = at_filter_step n p x (int_eq (place x) n) (p x) xs refl refl (h x) (at_filter n p h xs)

  -- a part of a rising list rises
  pub filter_rises : (p : X → Bool) (xs : List X) → IsRising place xs → IsRising place (filter p xs)
  filter_rises p xs h = AllPairs-filter (λ a b. place a <ℤ place b) p xs h

  -- what is not behind is in front
  front_step : (n : ℤ) (b : Bool) (x : X) (r s : Option X) → r ≡ s → cond b (Some x) r ≡ cond b (Some x) s
  front_step n b x r s f = ap (λ o. cond b (Some x) o) f

  pub at_front : (n : ℤ) (xs ys : List X) → at place n ys ≡ None → at place n (xs ++ ys) ≡ at place n xs
  at_front n [] ys h = h
  at_front n (x ∷ xs) ys h = front_step n (int_eq (place x) n) x (at place n (xs ++ ys)) (at place n xs) (at_front n xs ys h)

  -- at another number nothing changes
  at_kept : (n m : ℤ) (p : X → Bool) → ((x : X) → place x ≡ n → p x ≡ true) → (xs : List X) → at place n (filter p xs) ≡ at place n xs
  at_kept n m p h xs = at_filter n p (λ x e. h x ((Decides-int_eq (place x) n).0 e)) xs

  pub passed_over : (n : ℤ) (x : X) (xs : List X) → (place x ≡ n → ⊥) → at place n (x ∷ xs) ≡ at place n xs
  passed_over n x xs ne = let f : int_eq (place x) n ≡ false = is_other (place x) n ne in rw f refl

  behind_all : (k n : ℤ) (xs : List X) → n ≤ℤ k → All (IsAfter place n) (after place k xs)
  behind_all k n xs l = All-weaker (IsAfter place k) (IsAfter place n) (λ y g. omega (arith, ints, l, g)) (after place k xs) (after_is_after place k xs)

  front_all : (k n : ℤ) (xs : List X) → k ≤ℤ n → All (IsBefore n) (before place k xs)
  front_all k n xs l = All-weaker (IsBefore k) (IsBefore n) (λ y g. omega (arith, ints, l, g)) (before place k xs) (before_is_before k xs)

  pub at_without_same : (k : ℤ) (xs : List X) → at place k (without place k xs) ≡ None
  at_without_same k xs =
      stands_behind k (before place k xs) (after place k xs) (before_is_before k xs) ∙ none_stands k (after place k xs) (after_is_after place k xs)

  pub at_without : (k n : ℤ) (xs : List X) → (k ≡ n → ⊥) → at place n (without place k xs) ≡ at place n xs
  at_without k n xs ne = by_lt_z n k
      (λ l. at_front n (before place k xs) (after place k xs) (none_stands n (after place k xs) (behind_all k n xs (omega (arith, ints, l))))
      ∙ at_kept n k (λ x. int_lt (place x) k) (λ x e. lt_yes (place x) k (omega (arith, ints, l, e))) xs)
      (λ l. let later : k <ℤ n = above k n l (λ e. ne (sym e)) in
      stands_behind n (before place k xs) (after place k xs) (front_all k n xs l)
      ∙ at_kept n k (λ x. int_lt k (place x)) (λ x e. lt_yes k (place x) (omega (arith, ints, later, e))) xs)

  pub at_put_other : (x : X) (n : ℤ) (xs : List X) → (place x ≡ n → ⊥) → at place n (put place x xs) ≡ at place n xs
  at_put_other x n xs ne = by_lt_z n (place x)
      (λ l. at_front n (before place (place x) xs) (x ∷ after place (place x) xs)
      (passed_over n x (after place (place x) xs) ne ∙ none_stands n (after place (place x) xs) (behind_all (place x) n xs (omega (arith, ints, l))))
      ∙ at_kept n (place x) (λ y. int_lt (place y) (place x)) (λ y e. lt_yes (place y) (place x) (omega (arith, ints, l, e))) xs)
      (λ l. let later : place x <ℤ n = above (place x) n l (λ e. ne (sym e)) in
      stands_behind n (before place (place x) xs) (x ∷ after place (place x) xs) (front_all (place x) n xs l)
      ∙ passed_over n x (after place (place x) xs) ne
      ∙ at_kept n (place x) (λ y. int_lt (place x) (place y)) (λ y e. lt_yes (place x) (place y) (omega (arith, ints, later, e))) xs)

  -- what holds of each element, and of one that is put, holds of each after a put and after a take
  pub put_keeps : (P : X → Type 0) (x : X) (xs : List X) → P x → All P xs → All P (put place x xs)
  put_keeps P x xs one h =
      All-append P (before place (place x) xs) (x ∷ after place (place x) xs) (All-filter (λ y. int_lt (place y) (place x)) P xs h)
      (All-cons P x (after place (place x) xs) one (All-filter (λ y. int_lt (place x) (place y)) P xs h))

  pub without_keeps : (P : X → Type 0) (n : ℤ) (xs : List X) → All P xs → All P (without place n xs)
  without_keeps P n xs h =
      All-append P (before place n xs) (after place n xs) (All-filter (λ y. int_lt (place y) n) P xs h) (All-filter (λ y. int_lt n (place y)) P xs h)
