-- The overlap of a period with kept ones is the least start among those that stand in its way.
use Rattle.std.specs.Prelude.{◌≡◌, ◌≢◌, Bool, true, false, cond, not, ◌&&◌, List, [], ◌∷◌, ℤ, ◌≤ℤ◌, Option, None, Some, option_map, find, All, Contains}
use Rattle.std.specs.Ordering.{int_eq}
use Rattle.std.proofs.Common.{arith, refl, subst}
use Rattle.std.proofs.lemmas.Int.{ints}
use Rattle.std.proofs.lemmas.Bool.Decides.{Decides-int_eq}
use Rattle.std.proofs.lemmas.List.Elements.{All-contains, All-contains_itself, All-head, All-tail, All-cons, All-weaker}
use Rattle.rising.specs.Lists.{IsRising}
use Rattle.rising.proofs.Selecting.{AllPairs-head, AllPairs-tail}
use Rattle.ratings.specs.Periods.{begin, overlap, share, stands_in_the_way}
use Rattle.ratings.specs.Spans.{Span}
use Rattle.ratings.proofs.PeriodLemmas.{IsEarlier, clear, eq_no, none_in_the_way}

-- what is found first: an element that passes, before which none does
record IsFirst (p : Span → Bool) (xs : List Span) (x : Span) : Type 0 where
  there : Contains xs x
  passes : p x ≡ true
  first : (y : Span) → Contains xs y → p y ≡ true → IsRising begin xs → begin x ≤ℤ begin y

-- an element behind another one
behind : (y x : Span) (xs : List Span) → Contains xs x → Contains (y ∷ xs) x
behind y x xs h = All-contains (λ (z : Span). Contains (y ∷ xs) z) xs x (All-tail (Contains (y ∷ xs)) y xs (All-contains_itself (y ∷ xs))) h

head_there : (x : Span) (xs : List Span) → Contains (x ∷ xs) x
head_there x xs = All-head (Contains (x ∷ xs)) x xs (All-contains_itself (x ∷ xs))

-- the first of a rising list begins no later than any
head_first : (x : Span) (xs : List Span) → IsRising begin (x ∷ xs) → All (λ (y : Span). begin x ≤ℤ begin y) (x ∷ xs)
head_first x xs h =
    All-cons (λ (y : Span). begin x ≤ℤ begin y) x xs (omega (arith, ints))
    (All-weaker (IsEarlier x) (λ (y : Span). begin x ≤ℤ begin y) (λ y l. omega (arith, ints)) xs (AllPairs-head IsEarlier x xs h))

-- one that passes is behind one that does not
not_head : (p : Span → Bool) (y z : Span) (xs : List Span) → p y ≡ false → Contains (y ∷ xs) z → p z ≡ true → Contains xs z
not_head p y z xs fails h passes =
    (All-contains (λ (w : Span). p w ≡ true → Contains xs w) (y ∷ xs) z
    (All-cons (λ (w : Span). p w ≡ true → Contains xs w) y xs (λ k. absurd (cc))
    (All-weaker (Contains xs) (λ (w : Span). p w ≡ true → Contains xs w) (λ w k l. k) xs (All-contains_itself xs))) h) passes

found_step : (p : Span → Bool) (x y : Span) (xs : List Span) (b : Bool) → p y ≡ b → cond b (Some y) (find p xs) ≡ Some x → (find p xs ≡ Some x → IsFirst p xs x) → IsFirst p (y ∷ xs) x
found_step p x y xs true e h k =
    subst (IsFirst p (y ∷ xs)) (let same : y ≡ x = cc in same)
    (record { there = head_there y xs; passes = e; first = λ z l m rising. All-contains (λ (w : Span). begin y ≤ℤ begin w) (y ∷ xs) z (head_first y xs rising) l })
found_step p x y xs false e h k =
    let rest = k h in
    record {
      there = behind y x xs rest.there;
      passes = rest.passes;
      first = λ z l m rising. rest.first z (not_head p y z xs e l m) m (AllPairs-tail IsEarlier y xs rising);
    }

found_first : (p : Span → Bool) (x : Span) (xs : List Span) → find p xs ≡ Some x → IsFirst p xs x
found_first p x [] h = absurd (cc)
found_first p x (y ∷ xs) h = found_step p x y xs (p y) refl h (found_first p x xs)

-- the period whose start the overlap is
earliest : (p : Span) (kept : List Span) (at : ℤ) (o : Option Span) → find (stands_in_the_way p) kept ≡ o → option_map begin o ≡ Some at
    → (q : Span) × (q.from ≡ at) × IsFirst (stands_in_the_way p) kept q
earliest p kept at None e h = absurd (cc)
earliest p kept at (Some q) e h = (q, let same : q.from ≡ at = cc in same, found_first (stands_in_the_way p) q kept e)

-- to stand in the way is to have another start and to share an instant
parted : (p q : Span) (b c : Bool) → int_eq q.from p.from ≡ b → share q p ≡ c → not b && c ≡ true → (q.from ≢ p.from) × (share q p ≡ true)
parted p q true c e f h = absurd (cc)
parted p q false true e f h = (λ k. let same = (Decides-int_eq q.from p.from).1 k in absurd (cc), f)
parted p q false false e f h = absurd (cc)

joined : (p q : Span) → q.from ≢ p.from → share q p ≡ true → stands_in_the_way p q ≡ true
joined p q other h = let e = eq_no q.from p.from other in rw (e, h) refl

pub overlap_stands : (p : Span) (kept : List Span) (at : ℤ) → overlap p kept ≡ Some at
    → (q : Span) × Contains kept q × (q.from ≡ at) × (q.from ≢ p.from) × (share q p ≡ true)
overlap_stands p kept at h =
    let found = earliest p kept at (find (stands_in_the_way p) kept) refl h in
    let apart = parted p found.0 (int_eq found.0.from p.from) (share found.0 p) refl refl found.2.passes in
    (found.0, found.2.there, found.1, apart.0, apart.1)

pub overlap_least : (p q : Span) (kept : List Span) (at : ℤ) → IsRising begin kept → overlap p kept ≡ Some at → Contains kept q
    → q.from ≢ p.from → share q p ≡ true → at ≤ℤ q.from
overlap_least p q kept at rising h there other shared =
    let found = earliest p kept at (find (stands_in_the_way p) kept) refl h in
    subst (λ (n : ℤ). n ≤ℤ q.from) found.1 (found.2.first q there (joined p q other shared) rising)

pub overlap_none : (p q : Span) (kept : List Span) → overlap p kept ≡ None → Contains kept q → q.from ≢ p.from → share q p ≡ false
overlap_none p q kept h there other =
    clear p q other (All-contains (λ (r : Span). stands_in_the_way p r ≡ false) kept q (none_in_the_way p kept h) there)
