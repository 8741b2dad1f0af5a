-- Two windows of a day are equal exactly where their parts are; what is far from the day has no part in it.
use Rattle.std.specs.Prelude.{◌≡◌, ◌≢◌, Bool, true, false, not, ◌&&◌, List, [], ◌∷◌, ◌++◌, ℤ, pos, ◌<ℤ◌, ◌≤ℤ◌, ◌+ℤ◌, ◌-ℤ◌, int_lt, int_le, filter, Option, Some, None, option_to_list, MatchOption, All}
use Rattle.std.proofs.Common.{arith, refl, ap, sym, ◌∙◌, subst, inl, inr, get_or}
use Rattle.std.proofs.lemmas.Int.{ints}
use Rattle.std.proofs.lemmas.List.{append-nil}
use Rattle.std.proofs.lemmas.List.Elements.{All-head, All-tail, All-nil, All-weaker, All-same, filter-append, filter_agree}
use Rattle.fixed_units.specs.declared.readings.Reading.{Reading}
use Rattle.fixed_units.specs.declared.readings.Flag.{Flag}
use Rattle.rising.proofs.Selecting.{filter_all, filter_none, filter_both}
use Rattle.rising.proofs.Parting.{lt_yes, lt_no, le_yes, le_no}
use Rattle.rising.proofs.Placing.{IsBefore, IsFrom}
use Rattle.readings.specs.Readings.{IsRising, instant_of, put, put_all, is_used, is_within, in_span, without_span, with_flag}
use Rattle.readings.specs.Window.{is_of_day, of_day, inner, neighbour_before, neighbour_after, with_neighbours, window, if_some, window_before, window_after}
use Rattle.readings.specs.Equality.{same_readings}
use Rattle.readings.specs.Reach.{IsFar, lead_from, follow_until}
use Rattle.readings.proofs.Selecting.{none_kept}
use Rattle.readings.proofs.EqualityLemmas.{lists_decide, told_same, told_other}
use Rattle.readings.proofs.WindowLemmas.{put_rises}
use Rattle.readings.proofs.WindowParts.{no_inner, inner_found}
use Rattle.readings.proofs.UnionLemmas.{filters_swap, put_out}
use Rattle.readings.proofs.ChangeLemmas.{filter_map_swap, flagged_already, without_rises}
use Rattle.readings.proofs.PuttingLemmas.{put_all_rises}
use Rattle.readings.proofs.RunLemmas.{with_flag_rises}
use Rattle.readings.proofs.NearLemmas.{final, initial, lead_inner, follow_inner}
use Rattle.readings.proofs.Neighbours.{inner_from, inner_before, final_kept, initial_kept, lead_stays, lead_stayed, follow_stays, follow_stayed}

-- where the neighbours of a day stand
found_all : (P : Reading → Type 0) (o p : Option Reading) → o ≡ p → MatchOption p (Unit {0}) P → MatchOption o (Unit {0}) P
found_all P o p e h = subst (λ (q : Option Reading). MatchOption q (Unit {0}) P) (sym e) h

some_kept : (P : Reading → Type 0) (o : Option Reading) → ((r : Reading) → o ≡ Some r → P r) → MatchOption o (Unit {0}) P
some_kept P None h = tt
some_kept P (Some r) h = h r refl

lead_is_before : (a gap : ℤ) (rs : List Reading) → IsRising rs → MatchOption (neighbour_before a gap rs) (Unit {0}) (IsBefore instant_of a)
lead_is_before a gap rs h =
    some_kept (IsBefore instant_of a) (neighbour_before a gap rs)
    (λ r e. final_kept (IsBefore instant_of a) (inner (a -ℤ gap) a rs) r (inner_before (a -ℤ gap) a rs) (sym (lead_inner a gap rs h) ∙ e))

follow_is_from : (b gap : ℤ) (rs : List Reading) → IsRising rs → MatchOption (neighbour_after b gap rs) (Unit {0}) (IsFrom instant_of b)
follow_is_from b gap rs h =
    some_kept (IsFrom instant_of b) (neighbour_after b gap rs)
    (λ r e. initial_kept (IsFrom instant_of b) (inner b ((b +ℤ gap) +ℤ pos 1) rs) r (inner_from b ((b +ℤ gap) +ℤ pos 1) rs) (sym (follow_inner b gap rs h) ∙ e))

-- a test takes one part of a window: the readings of the day, those before it or those behind it
one_part : (p : Reading → Bool) (xs ys zs : List Reading) → filter p (xs ++ (ys ++ zs)) ≡ filter p xs ++ (filter p ys ++ filter p zs)
one_part p xs ys zs =
    filter-append p xs (ys ++ zs) ∙ ap (λ (l : List Reading). filter p xs ++ l) (filter-append p ys zs)

option_none : (p : Reading → Bool) (o : Option Reading) → MatchOption o (Unit {0}) (λ r. p r ≡ false) → filter p (option_to_list o) ≡ []
option_none p None h = refl
option_none p (Some r) h = rw h refl

option_all : (p : Reading → Bool) (o : Option Reading) → MatchOption o (Unit {0}) (λ r. p r ≡ true) → filter p (option_to_list o) ≡ option_to_list o
option_all p None h = refl
option_all p (Some r) h = rw h refl

found_then : (P Q : Reading → Type 0) (o : Option Reading) → ((r : Reading) → P r → Q r) → MatchOption o (Unit {0}) P → MatchOption o (Unit {0}) Q
found_then P Q None f h = tt
found_then P Q (Some r) f h = f r h

pub record IsAround (a b : ℤ) (n : Option Reading) (rs : List Reading) (m : Option Reading) : Type 0 where
  pub lead : MatchOption n (Unit {0}) (IsBefore instant_of a)
  pub from : All (IsFrom instant_of a) rs
  pub before : All (IsBefore instant_of b) rs
  pub follow : MatchOption m (Unit {0}) (IsFrom instant_of b)

day_told : (a b : ℤ) (r : Reading) → a ≤ℤ r.at → r.at <ℤ b → is_of_day a b r ≡ true
day_told a b r l m = let e = le_yes a r.at l in let f = lt_yes r.at b m in rw (e, f) refl

day_not_before : (a b : ℤ) (r : Reading) → r.at <ℤ a → is_of_day a b r ≡ false
day_not_before a b r l = let e = le_no a r.at l in rw e refl

day_not_from : (a b : ℤ) (r : Reading) → b ≤ℤ r.at → is_of_day a b r ≡ false
day_not_from a b r l = let e = lt_no r.at b l in grind (arith)

day_part : (a b : ℤ) (n : Option Reading) (rs : List Reading) (m : Option Reading) → IsAround a b n rs m → filter (is_of_day a b) (with_neighbours n rs m) ≡ rs
day_part a b n [] m h = refl
day_part a b n (r ∷ rs) m h =
    let i = option_none (is_of_day a b) n (found_then (IsBefore instant_of a) (λ s. is_of_day a b s ≡ false) n (day_not_before a b) h.lead) in
    let j : filter (is_of_day a b) (r ∷ rs) ≡ r ∷ rs =
    filter_all (is_of_day a b) (r ∷ rs) (λ k d l. day_told a b (get_or (r ∷ rs) k d) (h.from k d l) (h.before k d l)) in
    let k = option_none (is_of_day a b) m (found_then (IsFrom instant_of b) (λ s. is_of_day a b s ≡ false) m (day_not_from a b) h.follow) in
    filter-append (is_of_day a b) (option_to_list n ++ (r ∷ rs)) (option_to_list m)
    ∙ ap (λ (l : List Reading). l ++ filter (is_of_day a b) (option_to_list m)) (filter-append (is_of_day a b) (option_to_list n) (r ∷ rs))
    ∙ ap (λ (l : List Reading). (l ++ filter (is_of_day a b) (r ∷ rs)) ++ filter (is_of_day a b) (option_to_list m)) i
    ∙ ap (λ (l : List Reading). l ++ filter (is_of_day a b) (option_to_list m)) j
    ∙ ap (λ (l : List Reading). (r ∷ rs) ++ l) k ∙ append-nil (r ∷ rs)

lead_part : (a b : ℤ) (n : Option Reading) (rs : List Reading) (m : Option Reading) → IsAround a b n rs m
    → filter (λ s. int_lt s.at a) (with_neighbours n rs m) ≡ option_to_list (if_some rs n)
lead_part a b n [] m h = refl
lead_part a b n (r ∷ rs) m h =
    let p = λ (s : Reading). int_lt s.at a in
    let from = All-head (IsFrom instant_of a) r rs h.from in
    let before = All-head (IsBefore instant_of b) r rs h.before in
    let i = option_all p n (found_then (IsBefore instant_of a) (λ s. p s ≡ true) n (λ s l. lt_yes s.at a l) h.lead) in
    let j : filter p (r ∷ rs) ≡ [] = filter_none p (r ∷ rs) (All-weaker (IsFrom instant_of a) (λ s. p s ≡ false) (λ s l. lt_no s.at a l) (r ∷ rs) h.from) in
    let k = option_none p m (found_then (IsFrom instant_of b) (λ s. p s ≡ false) m (λ s l. lt_no s.at a (omega (arith, ints, from, before, l))) h.follow) in
    filter-append p (option_to_list n ++ (r ∷ rs)) (option_to_list m)
    ∙ ap (λ (l : List Reading). l ++ filter p (option_to_list m)) (filter-append p (option_to_list n) (r ∷ rs))
    ∙ ap (λ (l : List Reading). (l ++ filter p (r ∷ rs)) ++ filter p (option_to_list m)) i
    ∙ ap (λ (l : List Reading). (option_to_list n ++ l) ++ filter p (option_to_list m)) j
    ∙ ap (λ (l : List Reading). (option_to_list n ++ []) ++ l) k ∙ append-nil (option_to_list n ++ []) ∙ append-nil (option_to_list n)

follow_part : (a b : ℤ) (n : Option Reading) (rs : List Reading) (m : Option Reading) → IsAround a b n rs m
    → filter (λ s. int_le b s.at) (with_neighbours n rs m) ≡ option_to_list (if_some rs m)
follow_part a b n [] m h = refl
follow_part a b n (r ∷ rs) m h =
    let p = λ (s : Reading). int_le b s.at in
    let from = All-head (IsFrom instant_of a) r rs h.from in
    let before = All-head (IsBefore instant_of b) r rs h.before in
    let i = option_none p n (found_then (IsBefore instant_of a) (λ s. p s ≡ false) n (λ s l. le_no b s.at (omega (arith, ints, from, before, l))) h.lead) in
    let j : filter p (r ∷ rs) ≡ [] = filter_none p (r ∷ rs) (All-weaker (IsBefore instant_of b) (λ s. p s ≡ false) (λ s l. le_no b s.at l) (r ∷ rs) h.before) in
    let k = option_all p m (found_then (IsFrom instant_of b) (λ s. p s ≡ true) m (λ s l. le_yes b s.at l) h.follow) in
    filter-append p (option_to_list n ++ (r ∷ rs)) (option_to_list m)
    ∙ ap (λ (l : List Reading). l ++ filter p (option_to_list m)) (filter-append p (option_to_list n) (r ∷ rs))
    ∙ ap (λ (l : List Reading). (l ++ filter p (r ∷ rs)) ++ filter p (option_to_list m)) i
    ∙ ap (λ (l : List Reading). l ++ filter p (option_to_list m)) j ∙ k

pub around : (a b gap : ℤ) (rs : List Reading) → IsRising rs → IsAround a b (neighbour_before a gap rs) (inner a b rs) (neighbour_after b gap rs)
around a b gap rs h = record {
  lead = lead_is_before a gap rs h;
  from = inner_from a b rs;
  before = inner_before a b rs;
  follow = follow_is_from b gap rs h;
}

-- so equal windows have equal parts
one_option : (o p : Option Reading) → option_to_list o ≡ option_to_list p → o ≡ p
one_option None None e = refl
one_option None (Some r) e = absurd (cc)
one_option (Some r) None e = absurd (cc)
one_option (Some r) (Some s) e = cc

pub same_inner : (a b gap : ℤ) (rs ss : List Reading) → IsRising rs → IsRising ss → window a b gap rs ≡ window a b gap ss → inner a b rs ≡ inner a b ss
same_inner a b gap rs ss h k e =
    sym (day_part a b (neighbour_before a gap rs) (inner a b rs) (neighbour_after b gap rs) (around a b gap rs h))
    ∙ ap (filter (is_of_day a b)) e
    ∙ day_part a b (neighbour_before a gap ss) (inner a b ss) (neighbour_after b gap ss) (around a b gap ss k)

pub same_lead : (a b gap : ℤ) (rs ss : List Reading) → IsRising rs → IsRising ss → window a b gap rs ≡ window a b gap ss → window_before a b gap rs ≡ window_before a b gap ss
same_lead a b gap rs ss h k e =
    one_option (window_before a b gap rs) (window_before a b gap ss)
    (sym (lead_part a b (neighbour_before a gap rs) (inner a b rs) (neighbour_after b gap rs) (around a b gap rs h))
    ∙ ap (filter (λ s. int_lt s.at a)) e
    ∙ lead_part a b (neighbour_before a gap ss) (inner a b ss) (neighbour_after b gap ss) (around a b gap ss k))

pub same_follow : (a b gap : ℤ) (rs ss : List Reading) → IsRising rs → IsRising ss → window a b gap rs ≡ window a b gap ss → window_after a b gap rs ≡ window_after a b gap ss
same_follow a b gap rs ss h k e =
    one_option (window_after a b gap rs) (window_after a b gap ss)
    (sym (follow_part a b (neighbour_before a gap rs) (inner a b rs) (neighbour_after b gap rs) (around a b gap rs h))
    ∙ ap (filter (λ s. int_le b s.at)) e
    ∙ follow_part a b (neighbour_before a gap ss) (inner a b ss) (neighbour_after b gap ss) (around a b gap ss k))

pub shown : (rs : List Reading) (o : Option Reading) → rs ≢ [] → if_some rs o ≡ o
shown [] o k = absurd (k refl)
shown (r ∷ rs) o k = refl

-- what a comparison has told
pub differs_true : (xs ys : List Reading) → true ≡ not (same_readings xs ys) → xs ≢ ys
differs_true xs ys e f = let k = told_same xs ys f in let g : true ≡ false = e ∙ ap not (sym k) in absurd (cc)

told_by_not : (b : Bool) → false ≡ not b → b ≡ true
told_by_not true e = refl
told_by_not false e = absurd (cc)

pub differs_false : (xs ys : List Reading) → false ≡ not (same_readings xs ys) → xs ≡ ys
differs_false xs ys e = (lists_decide xs ys).0 (told_by_not (same_readings xs ys) e)

pub tell_other : (xs ys : List Reading) → xs ≢ ys → true ≡ not (same_readings xs ys)
tell_other xs ys h = ap not (told_other xs ys h)

pub tell_same : (xs ys : List Reading) → xs ≡ ys → false ≡ not (same_readings xs ys)
tell_same xs ys e = ap not (told_same xs ys e)

-- a window of a rising list differs after a change where the used readings of the day do
pub day_altered : (a b gap : ℤ) (rs ss : List Reading) → IsRising rs → IsRising ss → true ≡ not (same_readings (inner a b rs) (inner a b ss))
    → true ≡ not (same_readings (window a b gap rs) (window a b gap ss))
day_altered a b gap rs ss h k e =
    tell_other (window a b gap rs) (window a b gap ss) (λ f. differs_true (inner a b rs) (inner a b ss) e (same_inner a b gap rs ss h k f))

-- where the day has none, and gets none, it stays without a window
pub day_unused : (a b gap : ℤ) (rs ss : List Reading) → false ≡ not (same_readings (inner a b rs) (inner a b ss)) → inner a b rs ≡ []
    → false ≡ not (same_readings (window a b gap rs) (window a b gap ss))
day_unused a b gap rs ss e none =
    tell_same (window a b gap rs) (window a b gap ss)
    (no_inner a b gap rs none ∙ sym (no_inner a b gap ss (sym (differs_false (inner a b rs) (inner a b ss) e) ∙ none)))

-- else its neighbours tell
pub lead_altered : (a b gap : ℤ) (rs ss : List Reading) → IsRising rs → IsRising ss → false ≡ not (same_readings (inner a b rs) (inner a b ss)) → inner a b rs ≢ []
    → true ≡ not (same_readings (inner (lead_from a gap (neighbour_before a gap rs)) a rs) (inner (lead_from a gap (neighbour_before a gap rs)) a ss))
    → true ≡ not (same_readings (window a b gap rs) (window a b gap ss))
lead_altered a b gap rs ss h k e some d =
    let n = lead_from a gap (neighbour_before a gap rs) in
    let same = differs_false (inner a b rs) (inner a b ss) e in
    tell_other (window a b gap rs) (window a b gap ss) (λ f. differs_true (inner n a rs) (inner n a ss) d
    (lead_stayed a gap rs ss h k
    (sym (shown (inner a b rs) (neighbour_before a gap rs) some) ∙ same_lead a b gap rs ss h k f
    ∙ shown (inner a b ss) (neighbour_before a gap ss) (λ none. some (same ∙ none)))))

pub follow_altered : (a b gap : ℤ) (rs ss : List Reading) → IsRising rs → IsRising ss → false ≡ not (same_readings (inner a b rs) (inner a b ss)) → inner a b rs ≢ []
    → true ≡ not (same_readings (inner b (follow_until b gap (neighbour_after b gap rs)) rs) (inner b (follow_until b gap (neighbour_after b gap rs)) ss))
    → true ≡ not (same_readings (window a b gap rs) (window a b gap ss))
follow_altered a b gap rs ss h k e some d =
    let n = follow_until b gap (neighbour_after b gap rs) in
    let same = differs_false (inner a b rs) (inner a b ss) e in
    tell_other (window a b gap rs) (window a b gap ss) (λ f. differs_true (inner b n rs) (inner b n ss) d
    (follow_stayed b gap rs ss h k
    (sym (shown (inner a b rs) (neighbour_after b gap rs) some) ∙ same_follow a b gap rs ss h k f
    ∙ shown (inner a b ss) (neighbour_after b gap ss) (λ none. some (same ∙ none)))))

pub parts_same : (a b gap : ℤ) (rs ss : List Reading) → inner a b rs ≡ inner a b ss → neighbour_before a gap rs ≡ neighbour_before a gap ss
    → neighbour_after b gap rs ≡ neighbour_after b gap ss → window a b gap rs ≡ window a b gap ss
parts_same a b gap rs ss e f g =
    ap (λ (l : List Reading). with_neighbours (neighbour_before a gap rs) l (neighbour_after b gap rs)) e
    ∙ ap (λ (o : Option Reading). with_neighbours o (inner a b ss) (neighbour_after b gap rs)) f
    ∙ ap (λ (o : Option Reading). with_neighbours (neighbour_before a gap ss) (inner a b ss) o) g

pub none_altered : (a b gap : ℤ) (rs ss : List Reading) → IsRising rs → IsRising ss → false ≡ not (same_readings (inner a b rs) (inner a b ss))
    → false ≡ not (same_readings (inner (lead_from a gap (neighbour_before a gap rs)) a rs) (inner (lead_from a gap (neighbour_before a gap rs)) a ss))
    → false ≡ not (same_readings (inner b (follow_until b gap (neighbour_after b gap rs)) rs) (inner b (follow_until b gap (neighbour_after b gap rs)) ss))
    → false ≡ not (same_readings (window a b gap rs) (window a b gap ss))
none_altered a b gap rs ss h k e f g =
    let n = lead_from a gap (neighbour_before a gap rs) in
    let m = follow_until b gap (neighbour_after b gap rs) in
    tell_same (window a b gap rs) (window a b gap ss)
    (parts_same a b gap rs ss (differs_false (inner a b rs) (inner a b ss) e)
    (lead_stays a gap rs ss h k (differs_false (inner n a rs) (inner n a ss) f))
    (follow_stays b gap rs ss h k (differs_false (inner b m rs) (inner b m ss) g)))

-- so where the one before stays, the one after tells
pub neighbours_told : (a b gap : ℤ) (rs ss : List Reading) (t : Bool) → IsRising rs → IsRising ss → false ≡ not (same_readings (inner a b rs) (inner a b ss)) → inner a b rs ≢ []
    → false ≡ not (same_readings (inner (lead_from a gap (neighbour_before a gap rs)) a rs) (inner (lead_from a gap (neighbour_before a gap rs)) a ss))
    → t ≡ not (same_readings (inner b (follow_until b gap (neighbour_after b gap rs)) rs) (inner b (follow_until b gap (neighbour_after b gap rs)) ss))
    → t ≡ not (same_readings (window a b gap rs) (window a b gap ss))
neighbours_told a b gap rs ss true h k e some f g = follow_altered a b gap rs ss h k e some g
neighbours_told a b gap rs ss false h k e some f g = none_altered a b gap rs ss h k e f g

-- the used readings from the gap before the day to the gap behind it tell the window
within_reach : (x y a b gap : ℤ) → (a -ℤ gap) ≤ℤ x → y ≤ℤ ((b +ℤ gap) +ℤ pos 1) → (r : Reading) → (is_within (a -ℤ gap) (b +ℤ gap) r && is_of_day x y r) ≡ is_of_day x y r
within_reach x y a b gap l m r = grind (arith, ints)

reach_inner : (x y a b gap : ℤ) (rs : List Reading) → (a -ℤ gap) ≤ℤ x → y ≤ℤ ((b +ℤ gap) +ℤ pos 1)
    → inner x y rs ≡ of_day x y (in_span (a -ℤ gap) (b +ℤ gap) (filter is_used rs))
reach_inner x y a b gap rs l m =
    sym (inner_found x y rs) ∙ filters_swap is_used (is_of_day x y) rs
    ∙ sym (filter_both (is_within (a -ℤ gap) (b +ℤ gap)) (is_of_day x y) (filter is_used rs)
    ∙ filter_agree (λ r. is_within (a -ℤ gap) (b +ℤ gap) r && is_of_day x y r) (is_of_day x y) (within_reach x y a b gap l m) (filter is_used rs))

same_reach : (x y a b gap : ℤ) (rs ss : List Reading) → (a -ℤ gap) ≤ℤ x → y ≤ℤ ((b +ℤ gap) +ℤ pos 1)
    → in_span (a -ℤ gap) (b +ℤ gap) (filter is_used rs) ≡ in_span (a -ℤ gap) (b +ℤ gap) (filter is_used ss) → inner x y rs ≡ inner x y ss
same_reach x y a b gap rs ss l m e =
    reach_inner x y a b gap rs l m ∙ ap (of_day x y) e ∙ sym (reach_inner x y a b gap ss l m)

pub near_tell : (a b gap : ℤ) (rs ss : List Reading) → IsRising rs → IsRising ss → a ≤ℤ b → pos 0 ≤ℤ gap
    → in_span (a -ℤ gap) (b +ℤ gap) (filter is_used rs) ≡ in_span (a -ℤ gap) (b +ℤ gap) (filter is_used ss)
    → window a b gap rs ≡ window a b gap ss
near_tell a b gap rs ss h k o g e =
    let n = a -ℤ gap in
    let m = (b +ℤ gap) +ℤ pos 1 in
    parts_same a b gap rs ss
    (same_reach a b a b gap rs ss (omega (arith, ints)) (omega (arith, ints)) e)
    (lead_inner a gap rs h ∙ ap final (same_reach n a a b gap rs ss (omega (arith, ints)) (omega (arith, ints)) e) ∙ sym (lead_inner a gap ss k))
    (follow_inner b gap rs h ∙ ap initial (same_reach b m a b gap rs ss (omega (arith, ints)) (omega (arith, ints)) e) ∙ sym (follow_inner b gap ss k))

-- what is far stands outside that reach
far_out : (a b gap : ℤ) (r : Reading) → IsFar a b gap r → is_within (a -ℤ gap) (b +ℤ gap) r ≡ false
far_out a b gap r (inl l) = let e = le_no (a -ℤ gap) r.at (omega (arith, ints)) in rw e refl
far_out a b gap r (inr l) = let e = le_no r.at (b +ℤ gap) l in grind (arith)

pub reach_put : (a b gap : ℤ) (list rs : List Reading) → IsRising rs → All (IsFar a b gap) list
    → in_span (a -ℤ gap) (b +ℤ gap) (put_all list rs) ≡ in_span (a -ℤ gap) (b +ℤ gap) rs
reach_put a b gap [] rs h far = refl
reach_put a b gap (r ∷ list) rs h far =
    let out = far_out a b gap r (All-head (IsFar a b gap) r list far) in
    reach_put a b gap list (put r rs) (put_rises r rs h) (All-tail (IsFar a b gap) r list far)
    ∙ put_out (is_within (a -ℤ gap) (b +ℤ gap)) r rs h
    (λ s e. ap (λ (n : ℤ). int_le (a -ℤ gap) n && int_le n (b +ℤ gap)) e ∙ out)

-- a span of far readings has no part within it
none_in_reach : (a b gap from to : ℤ) (rs : List Reading) → All (IsFar a b gap) (in_span from to rs)
    → in_span from to (in_span (a -ℤ gap) (b +ℤ gap) rs) ≡ []
none_in_reach a b gap from to rs far =
    filters_swap (is_within from to) (is_within (a -ℤ gap) (b +ℤ gap)) rs
    ∙ filter_none (is_within (a -ℤ gap) (b +ℤ gap)) (in_span from to rs)
    (All-weaker (IsFar a b gap) (λ r. is_within (a -ℤ gap) (b +ℤ gap) r ≡ false) (far_out a b gap) (in_span from to rs) far)

pub reach_without : (a b gap from to : ℤ) (rs : List Reading) → All (IsFar a b gap) (in_span from to rs)
    → in_span (a -ℤ gap) (b +ℤ gap) (without_span from to rs) ≡ in_span (a -ℤ gap) (b +ℤ gap) rs
reach_without a b gap from to rs far =
    let near = in_span (a -ℤ gap) (b +ℤ gap) rs in
    filters_swap (is_within (a -ℤ gap) (b +ℤ gap)) (λ r. not (is_within from to r)) rs
    ∙ filter_all (λ r. not (is_within from to r)) near
    (All-weaker (λ r. is_within from to r ≡ false) (λ r. not (is_within from to r) ≡ true) (λ r k. ap not k) near
    (none_kept (is_within from to) near (none_in_reach a b gap from to rs far)))

pub reach_flagged : (a b gap from to : ℤ) (flag : Flag) (rs : List Reading) → All (IsFar a b gap) (in_span from to rs)
    → in_span (a -ℤ gap) (b +ℤ gap) (with_flag from to flag rs) ≡ in_span (a -ℤ gap) (b +ℤ gap) rs
reach_flagged a b gap from to flag rs far =
    let near = in_span (a -ℤ gap) (b +ℤ gap) rs in
    filter_map_swap (is_within (a -ℤ gap) (b +ℤ gap)) _ (λ r. refl) rs
    ∙ flagged_already from to flag near
    (All-same (λ r. r.flag ≡ flag) (in_span from to near) [] (none_in_reach a b gap from to rs far) (All-nil (λ r. r.flag ≡ flag)))

-- so far changes leave the window
by_reach : (a b gap : ℤ) (rs ss : List Reading) → IsRising rs → IsRising ss → a ≤ℤ b → pos 0 ≤ℤ gap
    → in_span (a -ℤ gap) (b +ℤ gap) ss ≡ in_span (a -ℤ gap) (b +ℤ gap) rs → window a b gap ss ≡ window a b gap rs
by_reach a b gap rs ss h k o g e =
    near_tell a b gap ss rs k h o g
    (filters_swap (is_within (a -ℤ gap) (b +ℤ gap)) is_used ss ∙ ap (filter is_used) e ∙ filters_swap is_used (is_within (a -ℤ gap) (b +ℤ gap)) rs)

pub far_put_leaves : (a b gap : ℤ) (list rs : List Reading) → IsRising rs → a ≤ℤ b → pos 0 ≤ℤ gap → All (IsFar a b gap) list
    → window a b gap (put_all list rs) ≡ window a b gap rs
far_put_leaves a b gap list rs h o g far =
    by_reach a b gap rs (put_all list rs) h (put_all_rises list rs h) o g (reach_put a b gap list rs h far)

pub far_drop_leaves : (a b gap from to : ℤ) (rs : List Reading) → IsRising rs → a ≤ℤ b → pos 0 ≤ℤ gap → All (IsFar a b gap) (in_span from to rs)
    → window a b gap (without_span from to rs) ≡ window a b gap rs
far_drop_leaves a b gap from to rs h o g far =
    by_reach a b gap rs (without_span from to rs) h (without_rises from to rs h) o g (reach_without a b gap from to rs far)

pub far_flag_leaves : (a b gap from to : ℤ) (flag : Flag) (rs : List Reading) → IsRising rs → a ≤ℤ b → pos 0 ≤ℤ gap → All (IsFar a b gap) (in_span from to rs)
    → window a b gap (with_flag from to flag rs) ≡ window a b gap rs
far_flag_leaves a b gap from to flag rs h o g far =
    by_reach a b gap rs (with_flag from to flag rs) h (with_flag_rises from to flag rs h) o g (reach_flagged a b gap from to flag rs far)
