-- Kept periods: a period put among them or taken out, and the one in force.
use Rattle.std.specs.Prelude.{◌≡◌, ◌≢◌, Bool, true, false, cond, not, ◌&&◌, List, [], ◌∷◌, ℤ, ◌<ℤ◌, ◌≤ℤ◌, int_lt, int_le, Option, None, Some, IfSome, filter, find, option_map, All, AllPairs}
use Rattle.std.specs.Ordering.{int_eq}
use Rattle.std.proofs.Common.{arith, refl, sym, ◌∙◌, get_or, subst}
use Rattle.std.proofs.lemmas.Int.{ints}
use Rattle.std.proofs.lemmas.Bool.Decides.{Decides-int_eq}
use Rattle.std.proofs.lemmas.List.Elements.{All-head, All-tail, All-cons, All-nil, All-weaker, All-filter, filter_passes}
use Rattle.std.proofs.lemmas.List.Kept.{AllPairs-cons, AllPairs-filter}
use Rattle.rising.specs.Lists as lists
use Rattle.rising.specs.Lists.{IsRising, before, after, put, without}
use Rattle.rising.proofs.Selecting.{none_found, filter_none, AllPairs-head, AllPairs-tail, AllPairs-append}
use Rattle.rising.proofs.Parting.{lt_yes, lt_no, after_is_after}
use Rattle.rising.proofs.Placing.{before_is_before, put_rises, without_rises, put_keeps, without_keeps}
use Rattle.ratings.specs.Spans.{Span, EndsLater}
use Rattle.rising.specs.Ends.{last}
use Rattle.rising.proofs.Ends.{last-cons}
use Rattle.ratings.specs.Periods.{AreApart, begin, overlap, share, stands_in_the_way, is_before_end, is_in_force}

abbrev pub IsEarlier : Span → Span → Type 0
IsEarlier p q = p.from <ℤ q.from

abbrev pub IsApart : Span → Span → Type 0
IsApart p q = share p q ≡ false

pub eq_no : (x y : ℤ) → x ≢ y → int_eq x y ≡ false
eq_no x y h = step (int_eq x y) refl
  where
    step : (b : Bool) → int_eq x y ≡ b → int_eq x y ≡ false
    step true e = absurd (h ((Decides-int_eq x y).0 e))
    step false e = e

-- what begins before an instant is apart from what begins after it
across_step : (at : ℤ) (p : Span) (kept : List Span) (b : Bool) → int_lt p.from at ≡ b → IsRising begin (p ∷ kept) → AllPairs IsApart (p ∷ kept)
    → All (λ q. All (IsApart q) (after begin at kept)) (before begin at kept)
    → All (λ q. All (IsApart q) (after begin at (p ∷ kept))) (cond b (p ∷ before begin at kept) (before begin at kept))
across_step at p kept true e rising h k =
    let early = lt_no at p.from (omega (arith, ints)) in
    rw early (All-cons (λ q. All (IsApart q) (after begin at kept)) p (before begin at kept) (All-filter (λ (q : Span). int_lt at q.from) (IsApart p) kept (AllPairs-head IsApart p kept h)) k)
across_step at p kept false e rising h k =
    let none : before begin at kept ≡ [] =
    filter_none (λ (q : Span). int_lt q.from at) kept
    (All-weaker (IsEarlier p) (λ (q : Span). int_lt q.from at ≡ false) (λ q l. lt_no q.from at (omega (arith, ints))) kept (AllPairs-head IsEarlier p kept rising)) in
    rw none (All-nil (λ q. All (IsApart q) (after begin at (p ∷ kept))))

across : (at : ℤ) (kept : List Span) → IsRising begin kept → AllPairs IsApart kept → All (λ q. All (IsApart q) (after begin at kept)) (before begin at kept)
across at [] rising h = All-nil (λ q. All (IsApart q) [])
across at (p ∷ kept) rising h =
    across_step at p kept (int_lt p.from at) refl rising h (across at kept (AllPairs-tail IsEarlier p kept rising) (AllPairs-tail IsApart p kept h))

clear_step : (p q : Span) (b c : Bool) → b ≡ false → not b && c ≡ false → c ≡ false
clear_step p q true c e h = absurd (cc)
clear_step p q false c e h = h

and_swapped : (b c : Bool) → b && c ≡ c && b
and_swapped true true = refl
and_swapped true false = refl
and_swapped false true = refl
and_swapped false false = refl

-- a kept period of another start that does not stand in the way
pub clear : (p q : Span) → q.from ≢ p.from → stands_in_the_way p q ≡ false → share q p ≡ false
clear p q other h = clear_step p q (int_eq q.from p.from) (share q p) (eq_no q.from p.from other) h

pub none_in_the_way : (p : Span) (kept : List Span) → overlap p kept ≡ None → All (λ q. stands_in_the_way p q ≡ false) kept
none_in_the_way p kept h = none_found (stands_in_the_way p) kept (step (find (stands_in_the_way p) kept) h)
  where
    step : (o : Option Span) → option_map (λ (q : Span). q.from) o ≡ None → o ≡ None
    step None e = refl
    step (Some q) e = absurd (cc)

apart_before : (p : Span) (kept : List Span) → overlap p kept ≡ None → All (λ q. IsApart q p) (before begin p.from kept)
apart_before p kept h = λ k d l.
    let early = before_is_before begin p.from kept k d l in
    let free = All-filter (λ (q : Span). int_lt q.from p.from) (λ q. stands_in_the_way p q ≡ false) kept (none_in_the_way p kept h) k d l in
    clear p (get_or (before begin p.from kept) k d) (λ e. omega (arith, ints)) free

apart_after : (p : Span) (kept : List Span) → overlap p kept ≡ None → All (IsApart p) (after begin p.from kept)
apart_after p kept h = λ k d l.
    let late = after_is_after begin p.from kept k d l in
    let free = All-filter (λ (q : Span). int_lt p.from q.from) (λ q. stands_in_the_way p q ≡ false) kept (none_in_the_way p kept h) k d l in
    and_swapped (is_before_end p.from (get_or (after begin p.from kept) k d).until) (is_before_end (get_or (after begin p.from kept) k d).from p.until)
    ∙ clear p (get_or (after begin p.from kept) k d) (λ e. omega (arith, ints)) free

-- a period put among kept ones that it shares no instant with
pub put_apart : (p : Span) (kept : List Span) → AreApart kept → EndsLater p → overlap p kept ≡ None → AreApart (put begin p kept)
put_apart p kept h ordered free =
    record {
      ordered = put_keeps begin EndsLater p kept ordered h.ordered;
      rising = put_rises begin p kept h.rising;
      apart =
          AllPairs-append IsApart (before begin p.from kept) (p ∷ after begin p.from kept) (AllPairs-filter IsApart (λ (q : Span). int_lt q.from p.from) kept h.apart)
          (AllPairs-cons IsApart p (after begin p.from kept) (apart_after p kept free) (AllPairs-filter IsApart (λ (q : Span). int_lt p.from q.from) kept h.apart))
          (λ k d l. All-cons (IsApart (get_or (before begin p.from kept) k d)) p (after begin p.from kept) (apart_before p kept free k d l) (across p.from kept h.rising h.apart k d l));
    }

pub without_apart : (at : ℤ) (kept : List Span) → AreApart kept → AreApart (without begin at kept)
without_apart at kept h =
    record {
      ordered = without_keeps begin EndsLater at kept h.ordered;
      rising = without_rises begin at kept h.rising;
      apart =
          AllPairs-append IsApart (before begin at kept) (after begin at kept) (AllPairs-filter IsApart (λ (q : Span). int_lt q.from at) kept h.apart)
          (AllPairs-filter IsApart (λ (q : Span). int_lt at q.from) kept h.apart) (across at kept h.rising h.apart);
    }

-- no period begins where none is found
pub none_begins : (at : ℤ) (kept : List Span) → None ≡ lists.at begin at kept → All (λ p. p.from ≢ at) kept
none_begins at kept h =
    All-weaker (λ (p : Span). int_eq p.from at ≡ false) (λ p. p.from ≢ at) (λ p e k. absurd (let f = (Decides-int_eq p.from at).1 k in cc)) kept
    (none_found (λ (p : Span). int_eq p.from at) kept (sym h))

-- what the last period that has begun says
abbrev pub held : ℤ → Option Span → Option Span
held at None = None
held at (Some p) = cond (is_before_end at p.until) (Some p) None

before_its_end : (from next : ℤ) (until : Option ℤ) → from <ℤ next → IfSome until (λ u. next <ℤ u) → is_before_end from until ≡ true
before_its_end from next None h k = refl
before_its_end from next (Some u) h k = lt_yes from u (omega (arith, ints))

-- a period has ended where a later one that it shares no instant with has begun
pub ended : (from next at : ℤ) (until then : Option ℤ) → from <ℤ next → IfSome then (λ u. next <ℤ u) → is_before_end from then && is_before_end next until ≡ false
    → next ≤ℤ at → is_before_end at until ≡ false
ended from next at None then h k apart m = let e = before_its_end from next then h k in let f : true ≡ false = rw e at apart in absurd (cc)
ended from next at (Some u) then h k apart m =
    let e = before_its_end from next then h k in
    let f : int_lt next u ≡ false = rw e at apart in
    lt_no at u (omega (arith, ints))

kept_first : (at : ℤ) (p : Span) (kept qs : List Span) (q : Span) → AreApart (p ∷ kept) → filter (λ (r : Span). int_le r.from at) kept ≡ q ∷ qs → is_before_end at p.until ≡ false
kept_first at p kept qs q h e =
    let below : q.from ≤ℤ at = (let k = All-head (λ (r : Span). int_le r.from at ≡ true) q qs (subst (All (λ (r : Span). int_le r.from at ≡ true)) e (filter_passes (λ (r : Span). int_le r.from at) kept)) in omega (arith, ints)) in
    let later = All-head (IsEarlier p) q qs (subst (All (IsEarlier p)) e (All-filter (λ (r : Span). int_le r.from at) (IsEarlier p) kept (AllPairs-head IsEarlier p kept h.rising))) in
    let apart = All-head (IsApart p) q qs (subst (All (IsApart p)) e (All-filter (λ (r : Span). int_le r.from at) (IsApart p) kept (AllPairs-head IsApart p kept h.apart))) in
    let ordered = All-head EndsLater q qs
    (subst (All EndsLater) e (All-filter (λ (r : Span). int_le r.from at) EndsLater kept (All-tail EndsLater p kept h.ordered))) in
    ended p.from q.from at p.until q.until later ordered apart below

pub rest_apart : (p : Span) (kept : List Span) → AreApart (p ∷ kept) → AreApart kept
rest_apart p kept h =
    record {
      ordered = All-tail EndsLater p kept h.ordered;
      rising = AllPairs-tail IsEarlier p kept h.rising;
      apart = AllPairs-tail IsApart p kept h.apart;
    }

begun_step : (at : ℤ) (p : Span) (kept ys : List Span) → filter (λ (r : Span). int_le r.from at) kept ≡ ys → AreApart (p ∷ kept)
    → find (is_in_force at) kept ≡ held at (last ys) → cond (is_before_end at p.until) (Some p) (find (is_in_force at) kept) ≡ held at (last (p ∷ ys))
begun_step at p kept [] e h k = rw k refl
begun_step at p kept (q ∷ qs) e h k =
    let over = kept_first at p kept qs q h e in
    let behind = last-cons p q qs in
    rw (over, behind) k

in_force_step : (at : ℤ) (p : Span) (kept : List Span) (b : Bool) → int_le p.from at ≡ b → AreApart (p ∷ kept)
    → find (is_in_force at) kept ≡ held at (last (filter (λ (r : Span). int_le r.from at) kept))
    → cond (b && is_before_end at p.until) (Some p) (find (is_in_force at) kept) ≡ held at (last (cond b (p ∷ filter (λ (r : Span). int_le r.from at) kept) (filter (λ (r : Span). int_le r.from at) kept)))
in_force_step at p kept false e h k = k
in_force_step at p kept true e h k = begun_step at p kept (filter (λ (r : Span). int_le r.from at) kept) refl h k

-- the period in force is the last that has begun, if it has not ended
pub in_force_last : (at : ℤ) (kept : List Span) → AreApart kept → find (is_in_force at) kept ≡ held at (last (filter (λ (r : Span). int_le r.from at) kept))
in_force_last at [] h = refl
in_force_last at (p ∷ kept) h = in_force_step at p kept (int_le p.from at) refl h (in_force_last at kept (rest_apart p kept h))
