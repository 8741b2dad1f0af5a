-- The first of the best among unit values: what it is, and what it is with one more behind them.
use Rattle.std.specs.List.{list_any}
use Rattle.std.specs.Prelude.{◌≡◌, Bool, true, false, not, ◌&&◌, ◌||◌, cond, List, [], ◌∷◌, ◌++◌, ℤ, Option, None, Some, is_some, find, filter, map, All}
use Rattle.std.proofs.Common.{ℕ, ◌+◌, ◌<◌, length, drop, get_or, arith, refl, ap, sym, subst, ◌∙◌}
use Rattle.std.proofs.lemmas.Int.{ints}
use Rattle.std.proofs.lemmas.List.{append-nil, append_assoc}
use Rattle.std.proofs.lemmas.List.Elements.{All-head, All-tail, All-cons, All-nil, All-weaker, All-append}
use Rattle.std.proofs.lemmas.List.Folds.{list_any_none}
use Rattle.rising.proofs.Parting.{lt_yes, lt_no}
use Rattle.fixed_units.specs.declared.readings.Reading.{Reading}
use Rattle.unit_discharge.specs.declared.unit_values.Unit.{Unit}
use Rattle.day_inputs.specs.declared.day_inputs.DayParts.{DayParts}
use Rattle.daily_values.specs.declared.extremes.Extremes.{Extremes}
use Rattle.daily_values.specs.DayValue.{is_less, is_of_day, unit_of, extremes_among}
use Rattle.daily_values.proofs.SumLemmas.{units-step}

-- an order of values: nothing is ahead of itself, nothing without a value is ahead, and what is behind another is behind all that this is behind
pub record IsOrder (behind : Option ℤ → Option ℤ → Bool) : Type 0 where
  pub self : (x : Option ℤ) → behind x x ≡ false
  pub none : (x y : Option ℤ) → is_some y ≡ false → behind x y ≡ false
  pub chain : (x v w : Option ℤ) → behind x v ≡ true → behind x w ≡ false → behind v w ≡ false
  pub before : (x v u : Option ℤ) → behind x v ≡ true → behind x u ≡ false → is_some u ≡ true → behind u v ≡ true

abbrev pub is_more : Option ℤ → Option ℤ → Bool
is_more x y = is_less y x

module _ where
  less_self : (x : Option ℤ) → is_less x x ≡ false
  less_self None = refl
  less_self (Some a) = lt_no a a (omega (arith, ints))

  less_none : (x y : Option ℤ) → is_some y ≡ false → is_less x y ≡ false
  less_none None y e = refl
  less_none (Some a) None e = refl
  less_none (Some a) (Some b) e = absurd (cc)

  less_chain : (x v w : Option ℤ) → is_less x v ≡ true → is_less x w ≡ false → is_less v w ≡ false
  less_chain None v w h k = absurd (cc)
  less_chain (Some a) None w h k = absurd (cc)
  less_chain (Some a) (Some b) None h k = refl
  less_chain (Some a) (Some b) (Some c) h k = lt_no b c (omega (arith, ints, h, k))

  less_before : (x v u : Option ℤ) → is_less x v ≡ true → is_less x u ≡ false → is_some u ≡ true → is_less u v ≡ true
  less_before None v u h k e = absurd (cc)
  less_before (Some a) None u h k e = absurd (cc)
  less_before (Some a) (Some b) None h k e = absurd (cc)
  less_before (Some a) (Some b) (Some c) h k e = lt_yes c b (omega (arith, ints, h, k))

  more_none : (x y : Option ℤ) → is_some y ≡ false → is_more x y ≡ false
  more_none x None e = refl
  more_none x (Some b) e = absurd (cc)

  more_chain : (x v w : Option ℤ) → is_more x v ≡ true → is_more x w ≡ false → is_more v w ≡ false
  more_chain x None w h k = absurd (cc)
  more_chain None (Some b) w h k = absurd (cc)
  more_chain (Some a) (Some b) None h k = refl
  more_chain (Some a) (Some b) (Some c) h k = lt_no c b (omega (arith, ints, h, k))

  more_before : (x v u : Option ℤ) → is_more x v ≡ true → is_more x u ≡ false → is_some u ≡ true → is_more u v ≡ true
  more_before x None u h k e = absurd (cc)
  more_before None (Some b) u h k e = absurd (cc)
  more_before (Some a) (Some b) None h k e = absurd (cc)
  more_before (Some a) (Some b) (Some c) h k e = lt_yes b c (omega (arith, ints, h, k))

pub less_order : IsOrder is_less
less_order = record { self = less_self; none = less_none; chain = less_chain; before = less_before }

pub more_order : IsOrder is_more
more_order = record { self = less_self; none = more_none; chain = more_chain; before = more_before }

module _ (value : Unit → Option ℤ) (behind : Option ℤ → Option ℤ → Bool) where
  -- whether a unit value has a value that none is ahead of
  abbrev pub is_best : List Unit → Unit → Bool
  is_best units u = is_some (value u) && not (list_any (λ v. behind (value u) (value v)) units)

  abbrev pub best : List Unit → Option Unit
  best units = find (is_best units) units

  abbrev IsNotAhead : Unit → Unit → Type 0
  IsNotAhead x v = behind (value x) (value v) ≡ false

  abbrev IsBehind : Unit → Unit → Type 0
  IsBehind x u = is_some (value u) ≡ true → behind (value u) (value x) ≡ true

  -- the first of the best: none is ahead of it, and it is ahead of each before it
  pub record IsFirst (units : List Unit) (x : Unit) : Type 0 where
    pub front : List Unit
    pub back : List Unit
    pub split : units ≡ front ++ x ∷ back
    pub valued : is_some (value x) ≡ true
    pub highest : All (IsNotAhead x) units
    pub earlier : All (IsBehind x) front

  abbrev HasNone : List Unit → Type 0
  HasNone units = All (λ u. is_some (value u) ≡ false) units

  abbrev pub IsBestOf : List Unit → Option Unit → Type 0
  IsBestOf units None = HasNone units
  IsBestOf units (Some x) = IsFirst units x

  -- such a one is what is found
  find_missed : (p : Unit → Bool) (us : List Unit) → All (λ u. p u ≡ false) us → find p us ≡ None
  find_missed p [] h = refl
  find_missed p (u ∷ us) h =
      let here = All-head (λ u. p u ≡ false) u us h in
      rw here (find_missed p us (All-tail (λ u. p u ≡ false) u us h))

  find_first : (p : Unit → Bool) (front : List Unit) (x : Unit) (back : List Unit) → All (λ u. p u ≡ false) front → p x ≡ true
      → find p (front ++ x ∷ back) ≡ Some x
  find_first p [] x back h e = rw e refl
  find_first p (u ∷ us) x back h e =
      let here = All-head (λ u. p u ≡ false) u us h in
      rw here (find_first p us x back (All-tail (λ u. p u ≡ false) u us h) e)

  both : (a b : Bool) → a ≡ true → b ≡ false → a && not b ≡ true
  both true false e f = refl
  both true true e f = absurd (cc)
  both false b e f = absurd (cc)

  neither : (a b : Bool) → (a ≡ true → b ≡ true) → a && not b ≡ false
  neither false b h = refl
  neither true b h = let e = h refl in rw e refl

  or_second : (a b : Bool) → b ≡ true → (a || b) ≡ true
  or_second true b e = refl
  or_second false b e = e

  -- an element settles the answer
  any_here : (p : Unit → Bool) (front : List Unit) (x : Unit) (back : List Unit) → p x ≡ true → list_any p (front ++ x ∷ back) ≡ true
  any_here p [] x back e = rw e refl
  any_here p (u ∷ us) x back e = or_second (p u) (list_any p (us ++ x ∷ back)) (any_here p us x back e)

  pub found : (units : List Unit) (o : Option Unit) → IsBestOf units o → best units ≡ o
  found units None h = find_missed (is_best units) units (All-weaker (λ u. is_some (value u) ≡ false) (λ u. is_best units u ≡ false) (λ u e. rw e refl) units h)
  found units (Some x) h =
      ap (find (is_best units)) h.split
      ∙ find_first (is_best units) h.front x h.back
      (All-weaker (IsBehind x) (λ u. is_best units u ≡ false)
      (λ u e. neither (is_some (value u)) (list_any (λ v. behind (value u) (value v)) units)
      (λ s. ap (list_any (λ v. behind (value u) (value v))) h.split ∙ any_here (λ v. behind (value u) (value v)) h.front x h.back (e s))) h.front h.earlier)
      (both (is_some (value x)) (list_any (λ v. behind (value x) (value v)) units) h.valued (list_any_none (λ v. behind (value x) (value v)) units h.highest))

  module _ (order : IsOrder behind) where
    -- one more: it has no value, it is the first with one, it is ahead of the best so far, or it is not
    none_more : (us : List Unit) (v : Unit) → HasNone us → is_some (value v) ≡ false → HasNone (us ++ v ∷ [])
    none_more us v h e =
        All-append (λ u. is_some (value u) ≡ false) us (v ∷ []) h
        (All-cons (λ u. is_some (value u) ≡ false) v [] e (All-nil (λ u. is_some (value u) ≡ false)))

    first_more : (us : List Unit) (v : Unit) → HasNone us → is_some (value v) ≡ true → IsFirst (us ++ v ∷ []) v
    first_more us v h e = record {
      front = us;
      back = [];
      split = refl;
      valued = e;
      highest = All-append (IsNotAhead v) us (v ∷ []) (All-weaker (λ u. is_some (value u) ≡ false) (IsNotAhead v) (λ u s. order.none (value v) (value u) s) us h)
          (All-cons (IsNotAhead v) v [] (order.self (value v)) (All-nil (IsNotAhead v)));
      earlier = All-weaker (λ u. is_some (value u) ≡ false) (IsBehind v) (λ u s t. absurd (cc)) us h;
    }

    ahead_more : (us : List Unit) (x v : Unit) → IsFirst us x → behind (value x) (value v) ≡ true → is_some (value v) ≡ true → IsFirst (us ++ v ∷ []) v
    ahead_more us x v h e s = record {
      front = us;
      back = [];
      split = refl;
      valued = s;
      highest = All-append (IsNotAhead v) us (v ∷ []) (All-weaker (IsNotAhead x) (IsNotAhead v) (λ u k. order.chain (value x) (value v) (value u) e k) us h.highest)
          (All-cons (IsNotAhead v) v [] (order.self (value v)) (All-nil (IsNotAhead v)));
      earlier = All-weaker (IsNotAhead x) (IsBehind v) (λ u k t. order.before (value x) (value v) (value u) e k t) us h.highest;
    }

    stays_more : (us : List Unit) (x v : Unit) → IsFirst us x → behind (value x) (value v) ≡ false → IsFirst (us ++ v ∷ []) x
    stays_more us x v h e = record {
      front = h.front;
      back = h.back ++ v ∷ [];
      split = ap (λ (l : List Unit). l ++ v ∷ []) h.split ∙ append_assoc h.front (x ∷ h.back) (v ∷ []);
      valued = h.valued;
      highest = All-append (IsNotAhead x) us (v ∷ []) h.highest (All-cons (IsNotAhead x) v [] e (All-nil (IsNotAhead x)));
      earlier = h.earlier;
    }

    -- what is ahead has a value
    ahead_valued : (x v : Option ℤ) (b : Bool) → is_some v ≡ b → behind x v ≡ true → is_some v ≡ true
    ahead_valued x v true e h = e
    ahead_valued x v false e h = let none = order.none x v e in absurd (cc)

    -- with one more there is a best again
    next_best : (us : List Unit) (o : Option Unit) (v : Unit) → IsBestOf us o → (n : Option Unit) × IsBestOf (us ++ v ∷ []) n
    next_best us None v h = by (is_some (value v)) refl
      where
        by : (b : Bool) → is_some (value v) ≡ b → (n : Option Unit) × IsBestOf (us ++ v ∷ []) n
        by true e = (Some v, first_more us v h e)
        by false e = (None, none_more us v h e)
    next_best us (Some x) v h = by (behind (value x) (value v)) refl
      where
        by : (b : Bool) → behind (value x) (value v) ≡ b → (n : Option Unit) × IsBestOf (us ++ v ∷ []) n
        by true e = (Some v, ahead_more us x v h e (ahead_valued (value x) (value v) (is_some (value v)) refl e))
        by false e = (Some x, stays_more us x v h e)

    best_along : (us : List Unit) (o : Option Unit) (rest : List Unit) → IsBestOf us o → (n : Option Unit) × IsBestOf (us ++ rest) n
    best_along us o [] h = (o, subst (λ (l : List Unit). IsBestOf l o) (sym (append-nil us)) h)
    best_along us o (v ∷ rest) h =
        let next = next_best us o v h in
        let last = best_along (us ++ v ∷ []) next.0 rest next.1 in
        (last.0, subst (λ (l : List Unit). IsBestOf l last.0) (append_assoc us (v ∷ []) rest) last.1)

    -- what is found is the best
    pub best_is : (units : List Unit) → IsBestOf units (best units)
    best_is units =
        let all = best_along [] None units (All-nil (λ u. is_some (value u) ≡ false)) in
        subst (IsBestOf units) (sym (found units all.0 all.1)) all.1

    best_of : (units : List Unit) (o : Option Unit) → o ≡ best units → IsBestOf units o
    best_of units o e = subst (IsBestOf units) (sym e) (best_is units)

    -- the best with one more
    more_none_yet : (us : List Unit) (v : Unit) → None ≡ best us → cond (is_some (value v)) (Some v) None ≡ best (us ++ v ∷ [])
    more_none_yet us v e = by (is_some (value v)) refl
      where
        by : (b : Bool) → is_some (value v) ≡ b → cond b (Some v) None ≡ best (us ++ v ∷ [])
        by true s = sym (found (us ++ v ∷ []) (Some v) (first_more us v (best_of us None e) s))
        by false s = sym (found (us ++ v ∷ []) None (none_more us v (best_of us None e) s))

    more_ahead : (us : List Unit) (x v : Unit) → Some x ≡ best us → behind (value x) (value v) ≡ true → Some v ≡ best (us ++ v ∷ [])
    more_ahead us x v e h =
        sym (found (us ++ v ∷ []) (Some v) (ahead_more us x v (best_of us (Some x) e) h (ahead_valued (value x) (value v) (is_some (value v)) refl h)))

    more_behind : (us : List Unit) (x v : Unit) → Some x ≡ best us → behind (value x) (value v) ≡ false → Some x ≡ best (us ++ v ∷ [])
    more_behind us x v e h = sym (found (us ++ v ∷ []) (Some x) (stays_more us x v (best_of us (Some x) e) h))

    -- by what was kept: none so far, or one
    pub more_from_none : (us : List Unit) (kept : Option Unit) (v : Unit) (b : Bool) → kept ≡ None → kept ≡ best us → is_some (value v) ≡ b
        → cond b (Some v) kept ≡ best (us ++ v ∷ [])
    more_from_none us kept v b none e h = rw (none, sym h) (more_none_yet us v (sym none ∙ e))

    pub more_from_some : (us : List Unit) (kept : Option Unit) (x v : Unit) (b : Bool) → kept ≡ Some x → kept ≡ best us → behind (value x) (value v) ≡ b
        → cond b (Some v) kept ≡ best (us ++ v ∷ [])
    more_from_some us kept x v true some e h = more_ahead us x v (sym some ∙ e) h
    more_from_some us kept x v false some e h = some ∙ more_behind us x v (sym some ∙ e) h

-- the extremes of those that were passed, and those that are left
pub record AreExtremesOfRest (day : DayParts) (rest all : List Unit) (extremes : Extremes) : Type 0 where
  pub done : List Unit
  pub whole : done ++ rest ≡ all
  pub among : extremes ≡ extremes_among (filter (is_of_day day) done)

pub extremes-start : (day : DayParts) (all : List Unit) (extremes : Extremes) → extremes ≡ extremes_among [] → AreExtremesOfRest day all all extremes
extremes-start day all extremes e = record { done = []; whole = refl; among = e }

pub extremes-step : (day : DayParts) (u : Unit) (rest all : List Unit) (extremes next : Extremes) → AreExtremesOfRest day (u ∷ rest) all extremes
    → ((units : List Unit) → extremes ≡ extremes_among (filter (is_of_day day) units) → next ≡ extremes_among (filter (is_of_day day) (units ++ u ∷ [])))
    → AreExtremesOfRest day rest all next
extremes-step day u rest all extremes next h more =
    record { done = h.done ++ u ∷ []; whole = append_assoc h.done (u ∷ []) rest ∙ h.whole; among = more h.done h.among }

pub extremes-done : (day : DayParts) (rest all : List Unit) (extremes : Extremes) → rest ≡ [] → AreExtremesOfRest day rest all extremes
    → extremes ≡ extremes_among (filter (is_of_day day) all)
extremes-done day rest all extremes e h =
    h.among ∙ ap (λ (us : List Unit). extremes_among (filter (is_of_day day) us)) (sym (append-nil h.done) ∙ ap (λ (us : List Unit). h.done ++ us) (sym e) ∙ h.whole)

-- along the readings of a window: what is found among those of the day that are left
abbrev pub own_of : DayParts → List Reading → List Unit
own_of day rs = filter (is_of_day day) (map (unit_of day) rs)

module _ (day : DayParts) (p : Unit → Bool) where
  find_passed : (u : Unit) (us : List Unit) (a b : Bool) → is_of_day day u ≡ a → p u ≡ b → a && b ≡ false
      → find p (cond a (u ∷ filter (is_of_day day) us) (filter (is_of_day day) us)) ≡ find p (filter (is_of_day day) us)
  find_passed u us false b e f h = refl
  find_passed u us true true e f h = absurd (cc)
  find_passed u us true false e f h = rw f refl

  find_met : (u : Unit) (us : List Unit) (a b : Bool) → is_of_day day u ≡ a → p u ≡ b → a && b ≡ true
      → find p (cond a (u ∷ filter (is_of_day day) us) (filter (is_of_day day) us)) ≡ Some u
  find_met u us false b e f h = absurd (cc)
  find_met u us true false e f h = absurd (cc)
  find_met u us true true e f h = rw f refl

  module _ (w : List Reading) (i : ℕ) where
    -- those of the day from a reading on
    from_next : (r : Reading) (u : Unit) → i < length w → r ≡ get_or w i r → u ≡ unit_of day r
        → own_of day (drop i w) ≡ cond (is_of_day day u) (u ∷ own_of day (drop (i + 1) w)) (own_of day (drop (i + 1) w))
    from_next r u l h e = ap (filter (is_of_day day)) (units-step day w i r u l h e)

    pub find_next : (r : Reading) (u : Unit) (o : Option Unit) → i < length w → r ≡ get_or w i r → u ≡ unit_of day r → is_of_day day u && p u ≡ false
        → find p (own_of day (drop i w)) ≡ o → find p (own_of day (drop (i + 1) w)) ≡ o
    find_next r u o l h e f k =
        sym (ap (find p) (from_next r u l h e) ∙ find_passed u (map (unit_of day) (drop (i + 1) w)) (is_of_day day u) (p u) refl refl f) ∙ k

    pub find_here : (r : Reading) (u : Unit) (o : Option Unit) → i < length w → r ≡ get_or w i r → u ≡ unit_of day r → is_of_day day u && p u ≡ true
        → find p (own_of day (drop i w)) ≡ o → Some u ≡ o
    find_here r u o l h e f k =
        sym (ap (find p) (from_next r u l h e) ∙ find_met u (map (unit_of day) (drop (i + 1) w)) (is_of_day day u) (p u) refl refl f) ∙ k
