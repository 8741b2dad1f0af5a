-- Sums over parties, places, and beginnings of lists.
use Rattle.std.proofs.Common.{◌≡◌, ◌≢◌, ℕ, zero, suc, ◌+◌, ◌-◌, ◌≤◌, ◌<◌, List, [], ◌∷◌, ◌++◌, length, length-append, append-nil, append_assoc, slice_set, sym, refl, ap, ◌∙◌, arith}
use mathlib.Core.Option.{some, some-injective, some-ne-none}
use mathlib.Core.List.{IsPrefix}
use native.Mathlib.Decide.{ℕ_discrete}
use Rattle.std.proofs.lemmas.Bool.Decides.{nat_tests}
use lib.ListN.{get_elem?}
use Rattle.std.proofs.Common.{nat_lt, Bool, true, false, if◌then◌else◌}
use Rattle.std.specs.Prelude.{All}
use Rattle.std.proofs.lemmas.List.Elements.{All-nil, All-cons, All-append, All-weaker}
use Rattle.turnstile.specs.Places.{places, times, longer}
use Rattle.turnstile.specs.Parties.{total}
use Rattle.turnstile.specs.declared.parties.Party.{Party}

module _ {E F : Type 0} where
  pub total_set : (f : Party E F → ℕ) (views : List (Party E F)) (id : ℕ) (v w : Party E F) → get_elem? views id ≡ some v
      → total f (slice_set views id w) + f v ≡ total f views + f w
  total_set f [] id v w at = absurd (some-ne-none v (sym at))
  total_set f (u ∷ views) zero v w at = let e : f u ≡ f v = ap f (some-injective u v at) in omega arith
  total_set f (u ∷ views) (suc id) v w at = let e = total_set f views id v w at in omega arith

  pub total_snoc : (f : Party E F → ℕ) (views : List (Party E F)) (w : Party E F) → total f (views ++ w ∷ []) ≡ total f views + f w
  total_snoc f [] w = omega arith
  total_snoc f (u ∷ views) w = let e = total_snoc f views w in omega arith

  pub total_least : (f : Party E F → ℕ) (views : List (Party E F)) (id : ℕ) (v : Party E F) → get_elem? views id ≡ some v → f v ≤ total f views
  total_least f [] id v at = absurd (some-ne-none v (sym at))
  total_least f (u ∷ views) zero v at = let e : f u ≡ f v = ap f (some-injective u v at) in omega arith
  total_least f (u ∷ views) (suc id) v at = let e = total_least f views id v at in omega arith

  -- where nobody has a share
  pub total_none : (f : Party E F → ℕ) (views : List (Party E F)) → total (λ v. v.share) views ≡ 0
      → ((id : ℕ) (u : Party E F) → get_elem? views id ≡ some u → u.share ≡ 0 → f u ≡ 0) → total f views ≡ 0
  total_none f [] none spent = refl
  total_none f (u ∷ views) none spent =
      let here = spent 0 u refl (omega arith) in
      let there = total_none f views (omega arith) (λ id. spent (suc id)) in
      omega arith

  -- where one has the whole share
  pub total_alone : (f : Party E F → ℕ) (views : List (Party E F)) (id : ℕ) (v : Party E F) → get_elem? views id ≡ some v → total (λ u. u.share) views ≡ v.share
      → ((j : ℕ) (u : Party E F) → get_elem? views j ≡ some u → u.share ≡ 0 → f u ≡ 0) → total f views ≡ f v
  total_alone f [] id v at all spent = absurd (some-ne-none v (sym at))
  total_alone f (u ∷ views) zero v at all spent =
      let same : f u ≡ f v = ap f (some-injective u v at) in
      let share : u.share ≡ v.share = ap (λ w. w.share) (some-injective u v at) in
      let none = total_none f views (omega arith) (λ id. spent (suc id)) in
      omega arith
  total_alone f (u ∷ views) (suc id) v at all spent =
      let least = total_least (λ w. w.share) views id v at in
      let here = spent 0 u refl (omega arith) in
      let there = total_alone f views id v at (omega arith) (λ j. spent (suc j)) in
      omega arith

  -- another than the one with the whole share has none
  pub alone_else : (views : List (Party E F)) (id : ℕ) (v : Party E F) → get_elem? views id ≡ some v → total (λ u. u.share) views ≡ v.share
      → (j : ℕ) (u : Party E F) → j ≢ id → get_elem? views j ≡ some u → u.share ≡ 0
  alone_else [] id v at all j u ne there = absurd (some-ne-none v (sym at))
  alone_else (x ∷ views) zero v at all zero u ne there = absurd (ne refl)
  alone_else (x ∷ views) zero v at all (suc j) u ne there =
      let share : x.share ≡ v.share = ap (λ w. w.share) (some-injective x v at) in
      let least = total_least (λ w. w.share) views j u there in
      omega arith
  alone_else (x ∷ views) (suc id) v at all zero u ne there =
      let share : x.share ≡ u.share = ap (λ w. w.share) (some-injective x u there) in
      let least = total_least (λ w. w.share) views id v at in
      omega arith
  alone_else (x ∷ views) (suc id) v at all (suc j) u ne there =
      let least = total_least (λ w. w.share) views id v at in
      alone_else views id v at (omega arith) j u (λ e. ne (ap suc e)) there

pub times-append : (x : ℕ) (xs ys : List ℕ) → times x (xs ++ ys) ≡ times x xs + times x ys
times-append x [] ys = omega arith
times-append x (y ∷ xs) ys = let e = times-append x xs ys in omega arith

pub times-places-at : (x a b m n : ℕ) → a ≡ b → m ≡ n → times x (places a m) ≡ times x (places b n)
times-places-at x a b m n s t = λ i. times x (places (s i) (t i))

pub times-places : (x from m n : ℕ) → times x (places from (m + n)) ≡ times x (places from m) + times x (places (from + m) n)
times-places x from zero n =
    let e = times-places-at x from (from + 0) n n (omega arith) refl in
    let z = times-places-at x from from (0 + n) n refl (omega arith) in
    omega (arith, e, z)
times-places x from (suc m) n =
    let e = times-places x (suc from) m n in
    let z = times-places-at x from from (suc m + n) (suc (m + n)) refl (omega arith) in
    let s = times-places-at x (suc from + m) (from + suc m) n n (omega arith) refl in
    omega (arith, e, z, s)

abbrev tail_of : {E : Type 0} → List E → List E
tail_of [] = []
tail_of (x ∷ xs) = xs

abbrev head_or : {E : Type 0} → E → List E → E
head_or d [] = d
head_or d (x ∷ xs) = x

module _ {E : Type 0} where
  pub prefix_here : (xs : List E) → IsPrefix xs xs
  prefix_here xs = ([], append-nil xs)

  pub prefix_on : (xs ys zs : List E) → IsPrefix xs ys → IsPrefix ys zs → IsPrefix xs zs
  prefix_on xs ys zs a b = (a.0 ++ b.0, sym (append_assoc xs a.0 b.0) ∙ ap (λ l. l ++ b.0) a.1 ∙ b.1)

  pub prefix_length : (xs ys : List E) → IsPrefix xs ys → length xs ≤ length ys
  prefix_length xs ys a = let e = ap length a.1 in omega (arith, length-append xs a.0)

  -- of two beginnings of one list the shorter begins the longer
  pub prefix_of_longer : (log xs ys : List E) → IsPrefix xs log → IsPrefix ys log → length xs ≤ length ys → IsPrefix xs ys
  prefix_of_longer log [] ys a c le = (ys, refl)
  prefix_of_longer log (x ∷ xs) [] a c le = absurd (omega arith)
  prefix_of_longer [] (x ∷ xs) (y ∷ ys) a c le = let e = ap length a.1 in absurd (omega arith)
  prefix_of_longer (z ∷ log) (x ∷ xs) (y ∷ ys) a c le =
      let tails : xs ++ a.0 ≡ log = ap (λ l. tail_of l) a.1 in
      let tails' : ys ++ c.0 ≡ log = ap (λ l. tail_of l) c.1 in
      let same : x ≡ y = ap (λ l. head_or x l) (a.1 ∙ sym c.1) in
      let more = prefix_of_longer log xs ys (a.0, tails) (c.0, tails') (omega arith) in
      (more.0, λ i. same i ∷ more.1 i)

  -- a beginning as long as the list is the list
  pub prefix_whole : (xs ys : List E) → IsPrefix xs ys → length ys ≤ length xs → xs ≡ ys
  prefix_whole xs ys (([]), e) le = sym (append-nil xs) ∙ e
  prefix_whole xs ys ((z ∷ rest), e) le = let n = ap length e in absurd (omega (arith, length-append xs (z ∷ rest)))

  longer_by : (log xs ys : List E) → IsPrefix xs log → IsPrefix ys log → (t : Bool) → nat_lt (length xs) (length ys) ≡ t
      → IsPrefix xs (if t then ys else xs) × IsPrefix ys (if t then ys else xs) × IsPrefix (if t then ys else xs) log
  longer_by log xs ys a c true is = (prefix_of_longer log xs ys a c (grind (arith, nat_tests, is)), prefix_here ys, c)
  longer_by log xs ys a c false is = (prefix_here xs, prefix_of_longer log ys xs c a (grind (arith, nat_tests, is)), a)

  pub longer_begins : (log xs ys : List E) → IsPrefix xs log → IsPrefix ys log → IsPrefix xs (longer xs ys) × IsPrefix ys (longer xs ys) × IsPrefix (longer xs ys) log
  longer_begins log xs ys a c = longer_by log xs ys a c (nat_lt (length xs) (length ys)) refl

pub times-before : (x from n : ℕ) → x < from → times x (places from n) ≡ 0
times-before x from zero before = refl
times-before x from (suc n) before = grind (arith, times-before x (suc from) n (omega arith))

pub times-out : (x from n : ℕ) → from + n ≤ x → times x (places from n) ≡ 0
times-out x from zero out = refl
times-out x from (suc n) out = grind (arith, times-out x (suc from) n (omega arith))

times-in-by : (x from n : ℕ) → from ≤ x → (suc from ≤ x → 0 < times x (places (suc from) n)) → Dec (from ≡ x) → 0 < times x (places from (suc n))
times-in-by x from n le later (yes e) = grind (arith, e)
times-in-by x from n le later (no ne) = let m = later (omega (arith, ne)) in omega (arith, m)

pub times-in : (x from n : ℕ) → from ≤ x → x < from + n → 0 < times x (places from n)
times-in x from zero le lt = absurd (omega arith)
times-in x from (suc n) le lt = times-in-by x from n le (λ le'. times-in x (suc from) n le' (omega arith)) (ℕ_discrete from x)

-- places from here on, no farther than the end, lie before it
places_before : (from count end : ℕ) → from + count ≤ end → All (λ place. place < end) (places from count)
places_before from zero end le = All-nil (λ place. place < end)
places_before from (suc count) end le =
    All-cons (λ place. place < end) from (places (suc from) count) (omega arith) (places_before (suc from) count end (omega arith))

-- the places of a tally lie in a history that has grown, and so do those of its growth
pub tally_within : (tally : List ℕ) (n m : ℕ) → n ≤ m → All (λ place. place < n) tally → All (λ place. place < m) (tally ++ places n (m - n))
tally_within tally n m le within =
    All-append (λ place. place < m) tally (places n (m - n))
    (All-weaker (λ place. place < n) (λ place. place < m) (λ place lt. omega (arith, le, lt)) tally within)
    (places_before n (m - n) m (omega arith))
