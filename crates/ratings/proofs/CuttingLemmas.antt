-- Periods cut to the time between two instants: which they are, what they have in force, and that they are apart.
use Rattle.std.specs.Prelude.{◌≡◌, Bool, true, false, cond, not, ◌&&◌, List, [], ◌∷◌, ℤ, pos, ◌+ℤ◌, ◌<ℤ◌, ◌≤ℤ◌, int_lt, int_le, Option, None, Some, IsSome, IfSome, Result, Ok, Err, IfOk, option_map, filter, find, map, All, AllPairs}
use Rattle.std.specs.Int.{int_max, int_min}
use Rattle.std.specs.List.Sorted.{IsPartitionedBy}
use Rattle.std.proofs.Common.{arith, refl, ap, sym, subst, ◌∙◌, inl, inr, get_or}
use Rattle.std.proofs.Math.Nat.{eq-or-lt_of_le}
use Rattle.std.proofs.lemmas.Int.{ints, by_lt_z}
use Rattle.std.proofs.lemmas.List.Elements.{All-head, All-tail, All-map, All-filter, All-weaker, filter_passes}
use Rattle.std.proofs.lemmas.List.Kept.{AllPairs-cons, AllPairs-filter}
use Rattle.rising.proofs.Parting.{lt_yes, lt_no, le_yes}
use Rattle.rising.proofs.Selecting.{AllPairs-head, AllPairs-tail, filter_both}
use Rattle.ratings.specs.Numbered.{Numbered, StationRatings, AreRatings, rating_of, rows_found, rows_of}
use Rattle.ratings.specs.Parts.{Part, AreParts, meets, cut_end, part_of, parts, holds, part_at}
use Rattle.ratings.specs.Periods.{AreApart, share, is_before_end, is_in_force, in_force}
use Rattle.ratings.specs.Spans.{Span, EndsLater}
use Rattle.rating_tables.specs.Table.{Row, IsRating}
use Rattle.ratings.proofs.PeriodLemmas.{ended}
use Rattle.ratings.proofs.PeriodLawLemmas.{both, first_of, second_of, earlier}

not_no : (b : Bool) → not b ≡ true → b ≡ false
not_no true h = absurd (cc)
not_no false h = refl

no_not : (b : Bool) → b ≡ false → not b ≡ true
no_not true h = absurd (cc)
no_not false h = refl

-- what has ended at an instant had begun
begun_when_ended : (from at : ℤ) (until : Option ℤ) → IfSome until (λ u. from <ℤ u) → is_before_end at until ≡ false → from ≤ℤ at
begun_when_ended from at None h k = absurd (cc)
begun_when_ended from at (Some u) h k = omega (arith, ints)

-- the periods that have ended stand in front
pub parted_ended : (at : ℤ) (kept : List Span) → AreApart kept → IsPartitionedBy (λ (p : Span). not (is_before_end at p.until)) kept
parted_ended at kept h i j d l m e =
    elim (eq-or-lt_of_le l) [
      | inl k ↦ rw k e
      | inr k ↦ step (get_or kept i d) (get_or kept j d) (h.rising i j d k m) (h.ordered j d m) (h.apart i j d k m) (not_no (is_before_end at (get_or kept j d).until) e)
    ]
  where
    step : (p q : Span) → p.from <ℤ q.from → EndsLater q → share p q ≡ false → is_before_end at q.until ≡ false → not (is_before_end at p.until) ≡ true
    step p q u v w x =
        no_not (is_before_end at p.until) (ended p.from q.from at p.until q.until u v w (begun_when_ended q.from at q.until v x))

pub meeting_is : (lo hi : ℤ) (begun list kept : List Span) → begun ≡ filter (λ (p : Span). int_le p.from hi) list → list ≡ kept
    → filter (λ (p : Span). is_before_end lo p.until) begun ≡ filter (meets lo hi) kept
meeting_is lo hi begun list kept e f =
    ap (filter (λ (p : Span). is_before_end lo p.until)) (e ∙ ap (filter (λ (p : Span). int_le p.from hi)) f)
    ∙ filter_both (λ (p : Span). int_le p.from hi) (λ (p : Span). is_before_end lo p.until) kept

-- what is found has what all have
found_step : {X : Type 0} (P : X → Type 0) (x : X) (o : Option X) (b : Bool) → P x → IfSome o P → IfSome (cond b (Some x) o) P
found_step P x o true h k = h
found_step P x o false h k = k

pub found_has : {X : Type 0} (P : X → Type 0) (q : X → Bool) (xs : List X) → All P xs → IfSome (find q xs) P
found_has P q [] h = tt
found_has P q (x ∷ xs) h = found_step P x (find q xs) (q x) (All-head P x xs h) (found_has P q xs (All-tail P x xs h))

found_rows : (P : List Row → Type 0) (o : Option Numbered) → IfSome o (λ r. P r.rows) → IsSome o → P (rows_found o)
found_rows P None h k = absurd (cc)
found_rows P (Some r) h k = h

-- the later and the earlier of two instants
max_by : (x y : ℤ) (P : ℤ → Type 0) → (y <ℤ x → P x) → (x ≤ℤ y → P y) → P (int_max x y)
max_by x y P h k = by_lt_z y x (λ l. let e = lt_yes y x l in rw e (h l)) (λ l. let e = lt_no y x l in rw e (k l))

min_by : (x y : ℤ) (P : ℤ → Type 0) → (y <ℤ x → P y) → (x ≤ℤ y → P x) → P (int_min x y)
min_by x y P h k = by_lt_z y x (λ l. let e = lt_yes y x l in rw e (h l)) (λ l. let e = lt_no y x l in rw e (k l))

-- at an instant of the time that it is cut to, a period has begun and has ended where its part has
begun_cut : (lo at from : ℤ) → lo ≤ℤ at → int_le (int_max from lo) at ≡ int_le from at
begun_cut lo at from h =
    max_by from lo (λ m. int_le m at ≡ int_le from at) (λ l. refl) (λ l. le_yes lo at h ∙ sym (le_yes from at (omega (arith, ints))))

ended_cut : (hi at : ℤ) (until : Option ℤ) → at ≤ℤ hi → int_lt at (cut_end hi until) ≡ is_before_end at until
ended_cut hi at None h = lt_yes at (hi +ℤ pos 1) (omega (arith, ints))
ended_cut hi at (Some u) h =
    min_by u (hi +ℤ pos 1) (λ m. int_lt at m ≡ int_lt at u)
    (λ l. lt_yes at (hi +ℤ pos 1) (omega (arith, ints)) ∙ sym (lt_yes at u (omega (arith, ints)))) (λ l. refl)

holds_cut : (lo hi at : ℤ) (tables : List Numbered) (p : Span) → lo ≤ℤ at → at ≤ℤ hi → holds at (part_of lo hi tables p) ≡ is_in_force at p
holds_cut lo hi at tables p h k =
    ap (λ (b : Bool). b && int_lt at (cut_end hi p.until)) (begun_cut lo at p.from h) ∙ ap (λ (b : Bool). int_le p.from at && b) (ended_cut hi at p.until k)

-- a period in force there meets it
in_force_meets : (lo hi at : ℤ) (p : Span) → lo ≤ℤ at → at ≤ℤ hi → is_in_force at p ≡ true → meets lo hi p ≡ true
in_force_meets lo hi at p h k e =
    both (int_le p.from hi) (is_before_end lo p.until)
    (let f = first_of (int_le p.from at) (is_before_end at p.until) e in le_yes p.from hi (omega (arith, ints)))
    (earlier lo at p.until h (second_of (int_le p.from at) (is_before_end at p.until) e))

in_force_step : (lo hi at : ℤ) (tables : List Numbered) (p : Span) (ps : List Span) (m b : Bool) → (b ≡ true → m ≡ true) → holds at (part_of lo hi tables p) ≡ b
    → find (holds at) (map (part_of lo hi tables) (filter (meets lo hi) ps)) ≡ option_map (part_of lo hi tables) (find (is_in_force at) ps)
    → find (holds at) (map (part_of lo hi tables) (cond m (p ∷ filter (meets lo hi) ps) (filter (meets lo hi) ps))) ≡ option_map (part_of lo hi tables) (cond b (Some p) (find (is_in_force at) ps))
in_force_step lo hi at tables p ps true true e h k = rw h refl
in_force_step lo hi at tables p ps false true e h k = absurd (let f = e refl in cc)
in_force_step lo hi at tables p ps true false e h k = rw h k
in_force_step lo hi at tables p ps false false e h k = k

-- what is in force there is the part of the period in force
pub in_force_cut : (lo hi at : ℤ) (tables : List Numbered) (ps : List Span) → lo ≤ℤ at → at ≤ℤ hi
    → part_at at (parts lo hi tables ps) ≡ option_map (part_of lo hi tables) (in_force at ps)
in_force_cut lo hi at tables [] h k = refl
in_force_cut lo hi at tables (p ∷ ps) h k =
    in_force_step lo hi at tables p ps (meets lo hi p) (is_in_force at p) (in_force_meets lo hi at p h k) (holds_cut lo hi at tables p h k) (in_force_cut lo hi at tables ps h k)

-- a period that meets the time leaves a part, which ends before that of a later one begins
cut_ordered : (lo hi from : ℤ) (until : Option ℤ) → lo ≤ℤ hi → IfSome until (λ u. from <ℤ u) → int_le from hi ≡ true → is_before_end lo until ≡ true
    → int_max from lo <ℤ cut_end hi until
cut_ordered lo hi from None h e k m = max_by from lo (λ x. x <ℤ (hi +ℤ pos 1)) (λ l. omega (arith, ints)) (λ l. omega (arith, ints))
cut_ordered lo hi from (Some u) h e k m =
    max_by from lo (λ x. x <ℤ int_min u (hi +ℤ pos 1))
    (λ l. min_by u (hi +ℤ pos 1) (λ y. from <ℤ y) (λ n. omega (arith, ints)) (λ n. e))
    (λ l. min_by u (hi +ℤ pos 1) (λ y. lo <ℤ y) (λ n. omega (arith, ints)) (λ n. omega (arith, ints)))

cut_before : (lo hi next : ℤ) (until : Option ℤ) → is_before_end next until ≡ false → cut_end hi until ≤ℤ int_max next lo
cut_before lo hi next None h = absurd (cc)
cut_before lo hi next (Some u) h =
    max_by next lo (λ x. int_min u (hi +ℤ pos 1) ≤ℤ x)
    (λ l. min_by u (hi +ℤ pos 1) (λ y. y ≤ℤ next) (λ n. omega (arith, ints)) (λ n. omega (arith, ints)))
    (λ l. min_by u (hi +ℤ pos 1) (λ y. y ≤ℤ lo) (λ n. omega (arith, ints)) (λ n. omega (arith, ints)))

abbrev IsCutBefore : ℤ → ℤ → Span → Span → Type 0
IsCutBefore lo hi p q = cut_end hi p.until ≤ℤ int_max q.from lo

cut_apart : (lo hi : ℤ) (kept : List Span) → AreApart kept → AllPairs (IsCutBefore lo hi) kept
cut_apart lo hi kept h i j d l m = step (get_or kept i d) (get_or kept j d) (h.rising i j d l m) (h.ordered j d m) (h.apart i j d l m)
  where
    step : (p q : Span) → p.from <ℤ q.from → EndsLater q → share p q ≡ false → cut_end hi p.until ≤ℤ int_max q.from lo
    step p q u v w = cut_before lo hi q.from p.until (ended p.from q.from q.from p.until q.until u v w (omega (arith, ints)))

pairs_map : {X Y : Type 0} (f : X → Y) (R : Y → Y → Type 0) (xs : List X) → AllPairs (λ x y. R (f x) (f y)) xs → AllPairs R (map f xs)
pairs_map f R [] h = λ i j d l m. absurd (omega arith)
pairs_map f R (x ∷ xs) h =
    AllPairs-cons R (f x) (map f xs) (All-map (R (f x)) f xs (AllPairs-head (λ x y. R (f x) (f y)) x xs h))
    (pairs_map f R xs (AllPairs-tail (λ x y. R (f x) (f y)) x xs h))

abbrev pub IsKnown : List Numbered → Span → Type 0
IsKnown tables p = IsSome (rating_of p.rating tables)

-- what the rows of every rating have, those of the parts have too
rows_kept : (P : List Row → Type 0) (q : Span → Bool) (lo hi : ℤ) (tables : List Numbered) (ps : List Span) → All (λ r. P r.rows) tables → All (IsKnown tables) ps
    → All (λ p. P p.rows) (map (part_of lo hi tables) (filter q ps))
rows_kept P q lo hi tables ps h k =
    All-map (λ p. P p.rows) (part_of lo hi tables) (filter q ps)
    (All-filter q (λ p. P (rows_of p.rating tables)) ps
    (All-weaker (IsKnown tables) (λ p. P (rows_of p.rating tables))
    (λ p m. found_rows P (rating_of p.rating tables) (found_has (λ r. P r.rows) _ tables h) m) ps k))

pub parts_are : (lo hi : ℤ) (ratings : StationRatings) → AreRatings ratings → lo ≤ℤ hi → AreParts (parts lo hi ratings.tables ratings.periods)
parts_are lo hi ratings h k =
    record {
      tables = rows_kept IsRating (meets lo hi) lo hi ratings.tables ratings.periods h.rows h.known;
      ordered =
          All-map (λ (p : Part). p.from <ℤ p.until) (part_of lo hi ratings.tables) (filter (meets lo hi) ratings.periods)
          (λ i d l. step (get_or (filter (meets lo hi) ratings.periods) i d) (All-filter (meets lo hi) EndsLater ratings.periods h.apart.ordered i d l)
          (filter_passes (meets lo hi) ratings.periods i d l));
      apart =
          pairs_map (part_of lo hi ratings.tables) (λ (p : Part) (q : Part). p.until ≤ℤ q.from) (filter (meets lo hi) ratings.periods)
          (AllPairs-filter (IsCutBefore lo hi) (meets lo hi) ratings.periods (cut_apart lo hi ratings.periods h.apart));
    }
  where
    step : (p : Span) → EndsLater p → meets lo hi p ≡ true → int_max p.from lo <ℤ cut_end hi p.until
    step p e m =
        cut_ordered lo hi p.from p.until k e (first_of (int_le p.from hi) (is_before_end lo p.until) m) (second_of (int_le p.from hi) (is_before_end lo p.until) m)

-- the periods that meet the time are of ratings that are there, and so is the one in force
pub met_known : (lo hi : ℤ) (tables : List Numbered) (ps met : List Span) → All (IsKnown tables) ps → met ≡ filter (meets lo hi) ps → All (IsKnown tables) met
met_known lo hi tables ps met h e = subst (All (IsKnown tables)) (sym e) (All-filter (meets lo hi) (IsKnown tables) ps h)

pub held_known : (at : ℤ) (tables : List Numbered) (ps : List Span) (p : Span) → All (IsKnown tables) ps → Some p ≡ in_force at ps → IsSome (rating_of p.rating tables)
held_known at tables ps p h e = subst (λ (o : Option Span). IfSome o (IsKnown tables)) (sym e) (found_has (IsKnown tables) (is_in_force at) ps h)

-- what is given as the parts keeps to what they do
pub given_parts : {E : Type 0} (r : Result (List Part) E) (lo hi : ℤ) (ratings : StationRatings) (met : List Span) → AreRatings ratings → met ≡ filter (meets lo hi) ratings.periods
    → IfOk r (λ list. list ≡ map (part_of lo hi ratings.tables) met) → IfOk r (λ list. lo ≤ℤ hi → AreParts list)
given_parts (Err e) lo hi ratings met h k m = tt
given_parts (Ok list) lo hi ratings met h k m =
    λ l. subst AreParts (sym (m ∙ ap (map (part_of lo hi ratings.tables)) k)) (parts_are lo hi ratings h l)
