-- Rising readings in two lists, one behind the other.
use Rattle.std.specs.Option.{option_or}
use Rattle.std.proofs.lemmas.List.Folds.{find-append}
use Rattle.std.specs.Prelude.{◌≡◌, Bool, Option, Some, None, find, reverse, filter, List, [], ◌∷◌, ◌++◌, ◌+◌, ◌-◌, ◌<ℤ◌, ◌≤ℤ◌, ◌≤◌, min, ℕ, ℤ, false, true, is_some, take, drop, length, int_lt, int_le, All}
use Rattle.std.proofs.Common.{arith, refl, ap, sym, ◌∙◌, subst, inl, inr, length-append, take_at, drop_at}
use Rattle.std.proofs.Math.Nat.{min-eq_left, min-eq_right}
use Rattle.std.proofs.Math.Seq.{drop-append-add}
use Rattle.std.specs.Ordering.{int_eq}
use Rattle.std.proofs.lemmas.Bool.{cases_lt}
use Rattle.std.proofs.lemmas.Bool.Decides.{Decides-int_eq}
use Rattle.std.proofs.lemmas.Int.{ints, by_lt_z}
use Rattle.std.proofs.lemmas.List.{length-take-le, reverse-append, append-nil, drop-append-le}
use Rattle.std.proofs.lemmas.List.Elements.{filter-append, All-weaker, All-head, All-cons, All-nil}
use Rattle.rising.specs.Ends.{first}
use Rattle.rising.specs.Lists.{up_to}
use Rattle.rising.proofs.Selecting.{AllPairs-front, AllPairs-back, AllPairs-across, filter_all}
use Rattle.rising.proofs.Parting.{IsAfter, yes_le, lt_yes, lt_no, le_yes, le_no, all_up_to, none_up_to}
use Rattle.rising.proofs.Placing.{IsBefore, IsFrom, none_stands}
use Rattle.rising.proofs.Splitting.{compared, rest_rises, rest_is_later, none_before}
use Rattle.fixed_units.specs.declared.readings.Reading.{Reading}
use Rattle.readings.specs.Readings.{IsRising, instant_of, before_instant, from_instant, at_instant, is_used}

pub left_rises : (xs ys : List Reading) → IsRising (xs ++ ys) → IsRising xs
left_rises xs ys h = AllPairs-front (λ r s. r.at <ℤ s.at) xs ys h

pub right_rises : (xs ys : List Reading) → IsRising (xs ++ ys) → IsRising ys
right_rises xs ys h = AllPairs-back (λ r s. r.at <ℤ s.at) xs ys h

-- a rising list is its readings before an instant and those from it on
pub cut : (at : ℤ) (rs : List Reading) → IsRising rs → rs ≡ before_instant at rs ++ from_instant at rs
cut at [] h = refl
cut at (r ∷ rs) h =
    by_lt_z r.at at
    (λ l. let a = lt_yes r.at at l in
    let b : int_le at r.at ≡ false = le_no at r.at l in
    rw (a, b) (ap (λ k. r ∷ k) (cut at rs (rest_rises instant_of r rs h))))
    (λ l. let a = lt_no r.at at l in
    let b : int_le at r.at ≡ true = le_yes at r.at l in
    let later : All (IsFrom instant_of at) rs = All-weaker (IsAfter instant_of r.at) (IsFrom instant_of at) (λ s k. omega (arith, ints, l, k)) rs (rest_is_later instant_of r rs h) in
    let none : before_instant at rs ≡ [] = none_before instant_of at rs later in
    let all : from_instant at rs ≡ rs =
    filter_all (λ s. int_le at s.at) rs (All-weaker (IsFrom instant_of at) (λ s. int_le at s.at ≡ true) (λ s k. le_yes at s.at k) rs later) in
    rw (a, b, none, all) refl)

pub all_before : (at : ℤ) (rs : List Reading) → All (IsBefore instant_of at) rs → before_instant at rs ≡ rs
all_before at rs h =
    filter_all (λ r. int_lt r.at at) rs (All-weaker (IsBefore instant_of at) (λ r. int_lt r.at at ≡ true) (λ r k. lt_yes r.at at k) rs h)

-- what a test of two numbers says
pub told_le : (x y m n : ℤ) → x ≡ m → y ≡ n → int_le x y ≡ true → m ≤ℤ n
told_le x y m n e f h = let k = yes_le x y h in omega (arith, ints, e, f, k)

pub told_gt : (x y m n : ℤ) → x ≡ m → y ≡ n → int_le x y ≡ false → n <ℤ m
told_gt x y m n e f h = omega (arith, ints, e, f, h)

-- in which list an instant belongs, by the first reading of the second one
pub left_earlier : (at : ℤ) (xs ys : List Reading) (r : Reading) → IsRising (xs ++ ys) → first ys ≡ Some r → r.at ≤ℤ at → All (IsBefore instant_of at) xs
left_earlier at xs [] r h e l = absurd (cc)
left_earlier at xs (y ∷ ys) r h e l =
    let same : y ≡ r = cc in
    let near : y.at ≤ℤ at = subst (λ (x : Reading). x.at ≤ℤ at) (sym same) l in
    All-weaker (λ x. All (IsAfter instant_of x.at) (y ∷ ys)) (IsBefore instant_of at)
    (λ x k. let f = All-head (IsAfter instant_of x.at) y ys k in omega (arith, ints, f, near)) xs
    (AllPairs-across (λ r s. r.at <ℤ s.at) xs (y ∷ ys) h)

pub right_later : (at : ℤ) (xs ys : List Reading) (r : Reading) → IsRising (xs ++ ys) → first ys ≡ Some r → at <ℤ r.at → All (IsAfter instant_of at) ys
right_later at xs [] r h e l = All-nil (IsAfter instant_of at)
right_later at xs (y ∷ ys) r h e l =
    let same : y ≡ r = cc in
    let far : at <ℤ y.at = subst (λ (x : Reading). at <ℤ x.at) (sym same) l in
    All-cons (IsAfter instant_of at) y ys far
    (All-weaker (IsAfter instant_of y.at) (IsAfter instant_of at) (λ x k. omega (arith, ints, far, k)) ys
    (rest_is_later instant_of y ys (right_rises xs (y ∷ ys) h)))

-- so a search in that one parts the whole
both_lengths : (p : Reading → Bool) (xs ys : List Reading) (i j : ℕ) → length (filter p xs) ≡ i → length (filter p ys) ≡ j → length (filter p (xs ++ ys)) ≡ i + j
both_lengths p xs ys i j e f = omega (arith, e, f, ap length (filter-append p xs ys), length-append (filter p xs) (filter p ys))

pub taken : (xs part : List Reading) (i : ℕ) → i ≤ length xs → take i xs ≡ part → length part ≡ i
taken xs part i l e = ap length (sym e) ∙ length-take-le i xs l

pub before_on_right : (at : ℤ) (xs ys : List Reading) (j : ℕ) → All (IsBefore instant_of at) xs → j ≤ length ys → take j ys ≡ before_instant at ys
    → length (before_instant at (xs ++ ys)) ≡ length xs + j
before_on_right at xs ys j h l e =
    both_lengths (λ r. int_lt r.at at) xs ys (length xs) j (ap length (all_before at xs h)) (taken ys (before_instant at ys) j l e)

pub before_on_left : (at : ℤ) (xs ys : List Reading) (i : ℕ) → All (IsAfter instant_of at) ys → i ≤ length xs → take i xs ≡ before_instant at xs
    → length (before_instant at (xs ++ ys)) ≡ i
before_on_left at xs ys i h l e =
    let none = none_before instant_of at ys (All-weaker (IsAfter instant_of at) (IsFrom instant_of at) (λ r k. omega (arith, ints, k)) ys h) in
    both_lengths (λ r. int_lt r.at at) xs ys i 0 (taken xs (before_instant at xs) i l e) (ap length none) ∙ omega arith

pub up_to_on_right : (at : ℤ) (xs ys : List Reading) (j : ℕ) → All (IsBefore instant_of at) xs → j ≤ length ys → take j ys ≡ up_to instant_of at ys
    → length (up_to instant_of at (xs ++ ys)) ≡ length xs + j
up_to_on_right at xs ys j h l e =
    let all = all_up_to instant_of at xs (All-weaker (IsBefore instant_of at) (λ r. r.at ≤ℤ at) (λ r k. omega (arith, ints, k)) xs h) in
    both_lengths (λ r. int_le r.at at) xs ys (length xs) j (ap length all) (taken ys (up_to instant_of at ys) j l e)

pub up_to_on_left : (at : ℤ) (xs ys : List Reading) (i : ℕ) → All (IsAfter instant_of at) ys → i ≤ length xs → take i xs ≡ up_to instant_of at xs
    → length (up_to instant_of at (xs ++ ys)) ≡ i
up_to_on_left at xs ys i h l e =
    both_lengths (λ r. int_le r.at at) xs ys i 0 (taken xs (up_to instant_of at xs) i l e) (ap length (none_up_to instant_of at ys h)) ∙ omega arith

-- the two lists cut at a place of the whole
none_left : (xs : List Reading) → drop (length xs) xs ≡ []
none_left xs = ap (drop (length xs)) (sym (append-nil xs)) ∙ drop_at xs [] (length xs) refl

pub back_cut : (xs ys : List Reading) (n i j : ℕ) → i ≡ min n (length xs) → j ≡ n - length xs → drop i xs ++ drop j ys ≡ drop n (xs ++ ys)
back_cut xs ys n i j e f =
    elim (cases_lt (length xs) n) [
      | inl l ↦ (let short : length xs ≤ n = omega (arith, l) in
          let whole : n ≡ length xs + j = omega (arith, l, f) in
          ap (λ m. drop m xs ++ drop j ys) (e ∙ min-eq_right short) ∙ ap (λ (k : List Reading). k ++ drop j ys) (none_left xs)
          ∙ sym (ap (λ m. drop m (xs ++ ys)) whole ∙ drop-append-add xs ys j))
      | inr l ↦ (let none : j ≡ 0 = omega (arith, l, f) in
          ap (λ m. drop m xs ++ drop j ys) (e ∙ min-eq_left l) ∙ ap (λ m. drop n xs ++ drop m ys) none ∙ sym (drop-append-le n xs ys l))
    ]

pub front_of : (at : ℤ) (rs : List Reading) (n : ℕ) → IsRising rs → length (before_instant at rs) ≡ n → take n rs ≡ before_instant at rs
front_of at rs n h e = ap (take n) (cut at rs h) ∙ take_at (before_instant at rs) (from_instant at rs) n e

pub back_of : (at : ℤ) (rs : List Reading) (n : ℕ) → IsRising rs → length (before_instant at rs) ≡ n → drop n rs ≡ from_instant at rs
back_of at rs n h e = ap (drop n) (cut at rs h) ∙ drop_at (before_instant at rs) (from_instant at rs) n e

-- a count in the half that an instant belongs to is one in the whole: what stands before it, and what from it on
module _ (at : ℤ) (xs ys rs : List Reading) (n : ℕ) (whole : rs ≡ xs ++ ys) (rising : IsRising rs) where
  on_right : All (IsBefore instant_of at) xs → (j : ℕ) → j ≤ length ys → take j ys ≡ before_instant at ys → n ≡ length xs + j → length (before_instant at rs) ≡ n
  on_right early j le e sum = ap (λ l. length (before_instant at l)) whole ∙ before_on_right at xs ys j early le e ∙ sym sum

  on_left : All (IsAfter instant_of at) ys → n ≤ length xs → take n xs ≡ before_instant at xs → length (before_instant at rs) ≡ n
  on_left late le e = ap (λ l. length (before_instant at l)) whole ∙ before_on_left at xs ys n late le e

  pub front_right : All (IsBefore instant_of at) xs → (j : ℕ) → j ≤ length ys → take j ys ≡ before_instant at ys → n ≡ length xs + j → take n rs ≡ before_instant at rs
  front_right early j le e sum = front_of at rs n rising (on_right early j le e sum)

  pub back_right : All (IsBefore instant_of at) xs → (j : ℕ) → j ≤ length ys → take j ys ≡ before_instant at ys → n ≡ length xs + j → drop n rs ≡ from_instant at rs
  back_right early j le e sum = back_of at rs n rising (on_right early j le e sum)

  pub front_left : All (IsAfter instant_of at) ys → n ≤ length xs → take n xs ≡ before_instant at xs → take n rs ≡ before_instant at rs
  front_left late le e = front_of at rs n rising (on_left late le e)

  pub back_left : All (IsAfter instant_of at) ys → n ≤ length xs → take n xs ≡ before_instant at xs → drop n rs ≡ from_instant at rs
  back_left late le e = back_of at rs n rising (on_left late le e)

-- what is found in the whole is found in the one list, or in the other
pub first_found : (p : Reading → Bool) (xs ys : List Reading) (o q : Option Reading) → o ≡ find p xs → q ≡ find p ys → option_or o q ≡ find p (xs ++ ys)
first_found p xs ys o q e f = rw (e, f) (sym (find-append p xs ys))

pub last_found : (p : Reading → Bool) (xs ys : List Reading) (o q : Option Reading) → o ≡ find p (reverse ys) → q ≡ find p (reverse xs)
    → option_or o q ≡ find p (reverse (xs ++ ys))
last_found p xs ys o q e f = first_found p (reverse ys) (reverse xs) o q e f ∙ ap (find p) (sym (reverse-append xs ys))

-- likewise among those from an instant on, and those before it
pub last_found_from : (at : ℤ) (xs ys : List Reading) (o q : Option Reading) → o ≡ find is_used (reverse (from_instant at ys))
    → q ≡ find is_used (reverse (from_instant at xs)) → option_or o q ≡ find is_used (reverse (from_instant at (xs ++ ys)))
last_found_from at xs ys o q e f =
    last_found is_used (from_instant at xs) (from_instant at ys) o q e f
    ∙ ap (λ (l : List Reading). find is_used (reverse l)) (sym (filter-append (λ r. int_le at r.at) xs ys))

pub first_found_before : (at : ℤ) (xs ys : List Reading) (o q : Option Reading) → o ≡ find is_used (before_instant at xs)
    → q ≡ find is_used (before_instant at ys) → option_or o q ≡ find is_used (before_instant at (xs ++ ys))
first_found_before at xs ys o q e f =
    first_found is_used (before_instant at xs) (before_instant at ys) o q e f ∙ ap (find is_used) (sym (filter-append (λ r. int_lt r.at at) xs ys))

apart : (x y : ℤ) → x ≤ℤ y → int_eq y x ≡ false → x <ℤ y
apart x y h e =
    elim (compared x y) [
      | inl l ↦ l
      | inr (inl l) ↦ absurd (let t : int_eq y x ≡ true = (Decides-int_eq y x).1 (sym l) in cc)
      | inr (inr l) ↦ absurd (omega (arith, ints, h, l))
    ]

-- where all stand from an instant on, the first one tells whether one stands at it
pub begins : (at : ℤ) (rs : List Reading) (r : Reading) (b : Bool) → All (IsFrom instant_of at) rs → IsRising rs → first rs ≡ Some r → b ≡ int_eq r.at at
    → b ≡ is_some (at_instant at rs)
begins at [] r b h k e f = absurd (cc)
begins at (y ∷ ys) r true h k e f =
    let same : y ≡ r = cc in
    let here : int_eq y.at at ≡ true = ap (λ (x : Reading). int_eq x.at at) same ∙ sym f in
    rw here refl
begins at (y ∷ ys) r false h k e f =
    let same : y ≡ r = cc in
    let other : int_eq y.at at ≡ false = ap (λ (x : Reading). int_eq x.at at) same ∙ sym f in
    let from = All-head (IsFrom instant_of at) y ys h in
    let later : at <ℤ y.at = apart at y.at from other in
    sym (ap is_some (none_stands instant_of at (y ∷ ys) (All-cons (IsAfter instant_of at) y ys later
    (All-weaker (IsAfter instant_of y.at) (IsAfter instant_of at) (λ x l. omega (arith, ints, later, l)) ys (rest_is_later instant_of y ys k)))))

pub begins_none : (at : ℤ) (rs : List Reading) → first rs ≡ None → false ≡ is_some (at_instant at rs)
begins_none at [] e = refl
begins_none at (y ∷ ys) e = absurd (cc)
