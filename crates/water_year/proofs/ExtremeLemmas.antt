-- The greatest and the least of numbers, with one more behind them.
use Rattle.std.proofs.Common.{◌≡◌, refl, sym, ap, subst, ◌∙◌, Bool, true, false, ◌&&◌, cond, if◌then◌else◌, List, [], ◌∷◌, ◌++◌, find, Option, Some, None, ℤ, ◌≤ℤ◌, int_le, append_assoc, append-nil, arith}
use Rattle.std.specs.List.{list_all}
use Rattle.std.specs.Int.{int_max, int_min}
use Rattle.std.specs.Option.{option_or}
use Rattle.std.proofs.lemmas.Int.{ints}
use Rattle.std.proofs.lemmas.List.Folds.{find-append, list_all-append}
use Rattle.water_year.specs.Tables.{greatest, least}

-- an order in which of two numbers one is ahead of the other
pub record IsOrder (ahead : ℤ → ℤ → Bool) : Type 0 where
  pub self : (a : ℤ) → ahead a a ≡ true
  pub chain : (a b c : ℤ) → ahead a b ≡ true → ahead b c ≡ true → ahead a c ≡ true
  pub other : (a b : ℤ) → ahead a b ≡ false → ahead b a ≡ true

abbrev pub is_at_least : ℤ → ℤ → Bool
is_at_least a b = int_le b a

le_yes : (a b : ℤ) → a ≤ℤ b → int_le a b ≡ true
le_yes a b h = grind (arith, ints)

pub most_order : IsOrder is_at_least
most_order = record {
  self = λ a. le_yes a a (omega (arith, ints));
  chain = λ a b c h k. le_yes c a (omega (arith, ints, h, k));
  other = λ a b h. le_yes a b (omega (arith, ints, h));
}

pub least_order : IsOrder int_le
least_order = record {
  self = λ a. le_yes a a (omega (arith, ints));
  chain = λ a b c h k. le_yes a c (omega (arith, ints, h, k));
  other = λ a b h. le_yes b a (omega (arith, ints, h));
}

-- what is found passes, and is found by a narrower test that it passes
found_passes : (p : ℤ → Bool) (xs : List ℤ) (m : ℤ) → find p xs ≡ Some m → p m ≡ true
found_passes p [] m e = absurd (cc)
found_passes p (x ∷ xs) m e = by (p x) refl e (found_passes p xs m)
  where
    by : (b : Bool) → p x ≡ b → cond b (Some x) (find p xs) ≡ Some m → (find p xs ≡ Some m → p m ≡ true) → p m ≡ true
    by true is e further = let same : x ≡ m = cc in subst (λ y. p y ≡ true) same is
    by false is e further = further e

found_narrower : (p q : ℤ → Bool) (xs : List ℤ) (m : ℤ) → ((n : ℤ) → p n ≡ false → q n ≡ false) → q m ≡ true → find p xs ≡ Some m
    → find q xs ≡ Some m
found_narrower p q [] m less pass e = absurd (cc)
found_narrower p q (x ∷ xs) m less pass e = by (p x) refl e (found_narrower p q xs m less pass)
  where
    by : (b : Bool) → p x ≡ b → cond b (Some x) (find p xs) ≡ Some m → (find p xs ≡ Some m → find q xs ≡ Some m)
        → cond (q x) (Some x) (find q xs) ≡ Some m
    by true is e further = let same : x ≡ m = cc in let here : q x ≡ true = subst (λ y. q y ≡ true) (sym same) pass in rw here e
    by false is e further = rw (less x is) (further e)

module _ (ahead : ℤ → ℤ → Bool) (o : IsOrder ahead) where
  abbrev pub best : List ℤ → Option ℤ
  best ns = find (λ n. list_all (λ m. ahead n m) ns) ns

  -- what is ahead of one that is ahead of all is ahead of all
  all_behind : (a b : ℤ) (ns : List ℤ) → ahead a b ≡ true → list_all (λ m. ahead b m) ns ≡ true → list_all (λ m. ahead a m) ns ≡ true
  all_behind a b [] h k = refl
  all_behind a b (n ∷ ns) h k = by (ahead b n) refl k (all_behind a b ns h)
    where
      by : (c : Bool) → ahead b n ≡ c → (c && list_all (λ m. ahead b m) ns) ≡ true
          → (list_all (λ m. ahead b m) ns ≡ true → list_all (λ m. ahead a m) ns ≡ true) → (ahead a n && list_all (λ m. ahead a m) ns) ≡ true
      by true is rest further = rw (o.chain a b n h is) (further rest)
      by false is rest further = absurd (cc)

  -- none of those that a number is ahead of is ahead of what it is not ahead of
  none_ahead : (q : ℤ → Bool) (m v : ℤ) (xs : List ℤ) → list_all (λ n. ahead m n) xs ≡ true → ahead m v ≡ false
      → find (λ n. q n && ahead n v) xs ≡ None
  none_ahead q m v [] h not_ahead = refl
  none_ahead q m v (x ∷ xs) h not_ahead = by (ahead m x) refl h (λ rest. none_ahead q m v xs rest not_ahead)
    where
      past : (b c : Bool) → q x ≡ c → ahead x v ≡ b → ahead m x ≡ true → find (λ n. q n && ahead n v) xs ≡ None
          → cond (c && b) (Some x) (find (λ n. q n && ahead n v) xs) ≡ None
      past true c same is before rest = absurd (cc (sym not_ahead ∙ o.chain m x v before is))
      past false true same is before rest = rest
      past false false same is before rest = rest

      by : (b : Bool) → ahead m x ≡ b → (b && list_all (λ n. ahead m n) xs) ≡ true
          → (list_all (λ n. ahead m n) xs ≡ true → find (λ n. q n && ahead n v) xs ≡ None)
          → cond (q x && ahead x v) (Some x) (find (λ n. q n && ahead n v) xs) ≡ None
      by true is rest further = past (ahead x v) (q x) refl refl is (further rest)
      by false is rest further = absurd (cc)

  -- the test of a longer list
  longer : (ns : List ℤ) (v n : ℤ) → list_all (λ m. ahead n m) (ns ++ v ∷ []) ≡ (list_all (λ m. ahead n m) ns && ahead n v)
  longer ns v n = list_all-append (λ m. ahead n m) ns (v ∷ []) ∙ by (list_all (λ m. ahead n m) ns) (ahead n v)
    where
      by : (b c : Bool) → (b && (c && true)) ≡ (b && c)
      by true true = refl
      by true false = refl
      by false true = refl
      by false false = refl

  find_same : (p q : ℤ → Bool) (xs : List ℤ) → ((n : ℤ) → p n ≡ q n) → find p xs ≡ find q xs
  find_same p q [] same = refl
  find_same p q (x ∷ xs) same = rw (same x, find_same p q xs same) refl

  pub best_push : (ns : List ℤ) (m v : ℤ) → best ns ≡ Some m → best (ns ++ v ∷ []) ≡ Some (if ahead m v then m else v)
  best_push ns m v is = find_same _ test (ns ++ v ∷ []) (longer ns v) ∙ find-append test ns (v ∷ []) ∙ by (ahead m v) refl
    where
      test : ℤ → Bool
      test n = list_all (λ k. ahead n k) ns && ahead n v

      all : list_all (λ k. ahead m k) ns ≡ true
      all = found_passes (λ n. list_all (λ k. ahead n k) ns) ns m is

      less : (n : ℤ) → list_all (λ k. ahead n k) ns ≡ false → test n ≡ false
      less n e = rw e refl

      by : (b : Bool) → ahead m v ≡ b → option_or (find test ns) (find test (v ∷ [])) ≡ Some (if b then m else v)
      by true e =
          let pass : test m ≡ true = rw (all, e) refl in
          let here = found_narrower (λ n. list_all (λ k. ahead n k) ns) test ns m less pass is in
          rw here refl
      by false e =
          let none = none_ahead (λ n. list_all (λ k. ahead n k) ns) m v ns all e in
          let here : test v ≡ true = rw (all_behind v m ns (o.other m v e) all, o.self v) refl in
          rw (none, here) refl

  pub best_one : (v : ℤ) → best (v ∷ []) ≡ Some v
  best_one v = rw (o.self v) refl

  -- some numbers have a best one
  still_best : (ns more : List ℤ) (m : ℤ) → best ns ≡ Some m → (k : ℤ) × (best (ns ++ more) ≡ Some k)
  still_best ns [] m is = (m, ap best (append-nil ns) ∙ is)
  still_best ns (v ∷ more) m is =
      let step = still_best (ns ++ v ∷ []) more (if ahead m v then m else v) (best_push ns m v is) in
      (step.0, ap best (sym (append_assoc ns (v ∷ []) more)) ∙ step.1)

  pub none_best : (ns : List ℤ) → best ns ≡ None → ns ≡ []
  none_best [] e = refl
  none_best (n ∷ ns) e = let some = still_best (n ∷ []) ns n (best_one n) in absurd (cc (sym e ∙ some.1))

  pub best_first : (ns : List ℤ) (v : ℤ) → best ns ≡ None → best (ns ++ v ∷ []) ≡ Some v
  best_first ns v e = ap (λ (l : List ℤ). best (l ++ v ∷ [])) (none_best ns e) ∙ best_one v

-- ---- the greatest and the least

max_is : (m v : ℤ) → int_max m v ≡ (if int_le v m then m else v)
max_is m v = grind (arith, ints)

min_is : (m v : ℤ) → int_min m v ≡ (if int_le m v then m else v)
min_is m v = grind (arith, ints)

pub greatest_push : (ns : List ℤ) (m v : ℤ) → Some m ≡ greatest ns → Some (int_max m v) ≡ greatest (ns ++ v ∷ [])
greatest_push ns m v is = ap Some (max_is m v) ∙ sym (best_push is_at_least most_order ns m v (sym is))

pub least_push : (ns : List ℤ) (m v : ℤ) → Some m ≡ least ns → Some (int_min m v) ≡ least (ns ++ v ∷ [])
least_push ns m v is = ap Some (min_is m v) ∙ sym (best_push int_le least_order ns m v (sym is))

pub greatest_first : (ns : List ℤ) (v : ℤ) → None ≡ greatest ns → Some v ≡ greatest (ns ++ v ∷ [])
greatest_first ns v is = sym (best_first is_at_least most_order ns v (sym is))

pub least_first : (ns : List ℤ) (v : ℤ) → None ≡ least ns → Some v ≡ least (ns ++ v ∷ [])
least_first ns v is = sym (best_first int_le least_order ns v (sym is))
