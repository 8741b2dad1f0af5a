-- The cells of one station replaced by those that it has after a change: what is said of each station, and the counts.
use Rattle.std.specs.Prelude.{◌≡◌, ℕ, zero, suc, ◌+◌, ◌*◌, ◌<◌, ◌≤◌, ◌^◌, min, Bool, true, false, not, ◌&&◌, cond, List, [], ◌∷◌, ◌++◌, length, set, take, drop, find, slice_get, count_by, filter, All, Option, Some, None, option_and_then, option_map, unwrap_or, is_none, IsSome, nat_lt, ℤ, pos, map}
use Rattle.std.specs.List.{AllWithin, flat_map, insert}
use Rattle.std.specs.Ordering.{int_eq}
use Rattle.std.proofs.Common.{rules, arith, refl, ap, sym, subst, ◌∙◌, get_or, inl, inr, Fits, w64}
use Rattle.std.proofs.lemmas.Bool.{cases_lt, cases_eq, false≢true}
use Rattle.std.proofs.lemmas.Bool.Decides.{Decides-int_eq}
use Rattle.std.proofs.lemmas.List.{get_or-set_same, get_or-set_other, length-set, length-map, take-append-drop}
use Rattle.std.proofs.lemmas.List.Edits.{length-insert, get_or-insert_below}
use Rattle.std.proofs.lemmas.List.Concat.{length-flat_map, flat_map-append}
use Rattle.std.proofs.lemmas.List.Elements.{All-set, filter_agree}
use Rattle.std.proofs.lemmas.List.Sums.{sum_by-set, sum_by-insert, sum_by-le, get_or-le-sum_by, length-filter, count_by-le-length}
use Rattle.fixed_units.specs.Quantities.{SiteNumber, first_day, site_place, same_site}
use Rattle.fixed_units.specs.Calendar.{days_from, calendar, days_of_calendar}
use Rattle.fixed_units.proofs.CalendarLemmas.{length_from}
use Rattle.daily_values.specs.declared.day_values.DayValue.{DayValue}
use Rattle.daily_values.specs.declared.day_values.DayValue.TheVariants.{Empty}
use Rattle.rising.specs.Lists.{IsRising, at, put, before, after}
use Rattle.rising.proofs.Placing.{write_is_put, put_rises, at_put, at_put_other, put_keeps}
use Rattle.rising.proofs.Selecting.{filter_none}
use Rattle.day_cells.proofs.DayLemmas.{by_day, on_day_at, on_day_before}
use Rattle.day_cells.specs.Days.{contains_day, on_day}
use Rattle.day_cells.specs.Spans.{days_of, with_days}
use Rattle.day_cells.specs.KeptDays as station
use Rattle.day_cells.specs.KeptDays.{KeptDays, edit_of, edit_on, awaited_on, is_out_on, value_on, is_pending_on, waiting_of, waiting_on}
use Rattle.day_cells.specs.Sites.{station_rank}
use Rattle.recompute.specs.Cells.{station_of, awaited_in, span_in, waiting, cell_count, IsPlace, IsGap, HasRoom, SaysTheSame, Marks, TakesOut, Publishes, KeepsCounts, NonePendingWithin, NoneUnclaimedWithin, most_stations}
use Rattle.recompute.proofs.StationLemmas.{site_yes, site_no}

-- how many days of a station can be pending at most
waiting_within : (s : KeptDays) (day : ℤ) (n : ℕ) → length (map (waiting_on s) (filter (is_pending_on s) (days_from day n))) ≤ n
waiting_within s day n =
    omega (
      arith,
      length-map (filter (is_pending_on s) (days_from day n)) (waiting_on s),
      length-filter (is_pending_on s) (days_from day n),
      count_by-le-length (is_pending_on s) (days_from day n),
      length_from day n,
    )

pub waiting_most : (s : KeptDays) → length (waiting_of s) ≤ days_of_calendar
unfolding calendar
waiting_most s = waiting_within s first_day days_of_calendar

-- the totals are small
pub pending_most : (stations : List KeptDays) → length stations ≤ most_stations → length (waiting stations) ≤ most_stations * days_of_calendar
pending_most stations few =
    let a = length-flat_map waiting_of stations in
    let b = sum_by-le (λ s. length (waiting_of s)) days_of_calendar stations (λ k d l. waiting_most (get_or stations k d)) in
    omega (arith, a, b, few)

pub cells_most : (stations : List KeptDays) → length stations ≤ most_stations → All (λ s. days_of s.span ≤ days_of_calendar) stations
    → cell_count stations ≤ most_stations * days_of_calendar
cells_most stations few spans =
    let b = sum_by-le (λ s. days_of s.span) days_of_calendar stations spans in
    omega (arith, b, few)

-- and one day span more fits 64 bits
pub fits_small : (n : ℕ) → n ≤ most_stations * days_of_calendar + days_of_calendar → Fits w64 n
fits_small n h = let l : n < 2 ^ 64 = omega arith in search rules

-- a station's part of the totals
pub pending_part : (stations : List KeptDays) (place : ℕ) (d : KeptDays) → place < length stations
    → length (waiting_of (get_or stations place d)) ≤ length (waiting stations)
pending_part stations place d l =
    let a = length-flat_map waiting_of stations in
    let b = get_or-le-sum_by (λ s. length (waiting_of s)) stations place d l in
    omega (arith, a, b)

pub cells_part : (stations : List KeptDays) (place : ℕ) (d : KeptDays) → place < length stations
    → days_of (get_or stations place d).span ≤ cell_count stations
cells_part stations place d l = get_or-le-sum_by (λ s. days_of s.span) stations place d l

-- what holds of each station before a place holds after a write behind, and with the station written where it holds there too
pub below_set : (P : KeptDays → Type 0) (xs : List KeptDays) (place first : ℕ) (y : KeptDays) → AllWithin P xs 0 first
    → AllWithin P (set xs place y) 0 (min first place)
below_set P xs place first y h k d low high =
    subst P (sym (get_or-set_other xs place k y d (omega arith))) (h k d low (omega arith))

pub kept_set : (P : KeptDays → Type 0) (xs : List KeptDays) (place first : ℕ) (old y : KeptDays) → place < length xs → old ≡ get_or xs place old
    → (P old → P y) → AllWithin P xs 0 first → AllWithin P (set xs place y) 0 first
kept_set P xs place first old y l e f h k d low high =
    elim (cases_eq k place) [
      | inl s ↦ (let was : P old = subst P (sym e) (h place old (omega arith) (subst (λ (n : ℕ). n < first) s high)) in
          let Q : ℕ → Type 0 = λ n. P (get_or (set xs place y) n d) in
          subst Q (sym s) (subst P (sym (get_or-set_same xs place y d l)) (f was)))
      | inr s ↦ subst P (sym (get_or-set_other xs place k y d s)) (h k d low high)
    ]

pub joined_within : (P : KeptDays → Type 0) (xs : List KeptDays) (first next : ℕ) → AllWithin P xs 0 first → AllWithin P xs first next → AllWithin P xs 0 next
joined_within P xs first next h g k d low high =
    elim (cases_lt k first) [
      | inl l ↦ h k d low l
      | inr l ↦ g k d l high
    ]

is_itself : (site : SiteNumber) → same_site site site ≡ true
is_itself site = (Decides-int_eq (site_place site) (site_place site)).1 refl

-- an awaited edit by its number
edit_marked : (t : Bool) (n m edit : ℕ) → 1 ≤ edit → n ≡ cond t edit m → edit_of n ≡ cond t (Some edit) (edit_of m)
edit_marked true n m edit h e = grind (arith, e)
edit_marked false n m edit h e = ap edit_of e

edit_gone : (t : Bool) (n m : ℕ) → n ≡ cond t 0 m → edit_of n ≡ cond t None (edit_of m)
edit_gone true n m e = ap edit_of e
edit_gone false n m e = ap edit_of e

module _ (stations : List KeptDays) (site : SiteNumber) (place : ℕ) (old new : KeptDays) where
  pub record IsReplaced : Type 0 where
    pub rising : IsRising station_rank stations
    pub here : IsPlace stations site place
    pub was : old ≡ get_or stations place old
    pub same : new.site ≡ old.site

  module _ (h : IsReplaced) where
    rank_same : station_rank new ≡ site_place site
    rank_same = ap site_place h.same ∙ ap station_rank h.was ∙ h.here.here old

    is_put : set stations place new ≡ put station_rank new stations
    is_put =
        write_is_put station_rank new stations place h.here.within
        (h.here.front ∙ ap (λ n. before station_rank n stations) (sym rank_same))
        (h.here.back ∙ ap (λ n. after station_rank n stations) (sym rank_same))

    replaced_rises : IsRising station_rank (set stations place new)
    replaced_rises = subst (IsRising station_rank) (sym is_put) (put_rises station_rank new stations h.rising)

    replaced_here : (s : SiteNumber) → same_site site s ≡ true → station_of (set stations place new) s ≡ Some new
    replaced_here s e =
        ap (λ xs. station_of xs s) is_put ∙ ap (λ n. at station_rank n (put station_rank new stations)) (sym (site_yes site s e) ∙ sym rank_same)
        ∙ at_put station_rank new stations

    replaced_there : (s : SiteNumber) → same_site site s ≡ false → station_of (set stations place new) s ≡ station_of stations s
    replaced_there s e =
        ap (λ xs. station_of xs s) is_put ∙ at_put_other station_rank new (site_place s) stations (λ k. site_no site s e (sym rank_same ∙ k))

    pub was_there : station_of stations site ≡ Some old
    was_there = h.here.found old ∙ ap (λ s. Some s) (sym h.was)

    was_here : (s : SiteNumber) → same_site site s ≡ true → station_of stations s ≡ Some old
    was_here s e = ap (λ n. at station_rank n stations) (sym (site_yes site s e)) ∙ was_there

    pub is_there : station_of (set stations place new) site ≡ Some new
    is_there = replaced_here site (is_itself site)

    -- what is said of a station by its cells alone: changed where a test passes, the same, or changed as a whole
    said_by : {X : Type 0} (f : Option KeptDays → X) (t : Bool) (v : X) → f (Some new) ≡ cond t v (f (Some old))
        → (s : SiteNumber) (b : Bool) → same_site site s ≡ b → f (station_of (set stations place new) s) ≡ cond (b && t) v (f (station_of stations s))
    said_by f t v e s true k = ap f (replaced_here s k) ∙ e ∙ ap (λ o. cond t v (f o)) (sym (was_here s k))
    said_by f t v e s false k = ap f (replaced_there s k)

    said : {X : Type 0} (f : Option KeptDays → X) (t : Bool) (v : X) → f (Some new) ≡ cond t v (f (Some old))
        → (s : SiteNumber) → f (station_of (set stations place new) s) ≡ cond (same_site site s && t) v (f (station_of stations s))
    said f t v e s = said_by f t v e s (same_site site s) refl

    same_by : {X : Type 0} (f : Option KeptDays → X) → f (Some new) ≡ f (Some old)
        → (s : SiteNumber) (b : Bool) → same_site site s ≡ b → f (station_of (set stations place new) s) ≡ f (station_of stations s)
    same_by f e s true k = ap f (replaced_here s k) ∙ e ∙ ap f (sym (was_here s k))
    same_by f e s false k = ap f (replaced_there s k)

    said_same : {X : Type 0} (f : Option KeptDays → X) → f (Some new) ≡ f (Some old)
        → (s : SiteNumber) → f (station_of (set stations place new) s) ≡ f (station_of stations s)
    said_same f e s = same_by f e s (same_site site s) refl

    whole_by : {X : Type 0} (f : Option KeptDays → X) (g : X → X) → f (Some new) ≡ g (f (Some old))
        → (s : SiteNumber) (b : Bool) → same_site site s ≡ b
        → f (station_of (set stations place new) s) ≡ cond b (g (f (station_of stations s))) (f (station_of stations s))
    whole_by f g e s true k = ap f (replaced_here s k) ∙ e ∙ ap (λ o. g (f o)) (sym (was_here s k))
    whole_by f g e s false k = ap f (replaced_there s k)

    -- the counts
    pub pending_replaced : length (waiting (set stations place new)) + length (waiting_of old) ≡ length (waiting stations) + length (waiting_of new)
    pending_replaced =
        let a = length-flat_map waiting_of stations in
        let b = length-flat_map waiting_of (set stations place new) in
        let e = ap (λ s. length (waiting_of s)) h.was in
        omega (arith, a, b, e, sum_by-set (λ s. length (waiting_of s)) stations place new old h.here.within)

    pub cells_replaced : cell_count (set stations place new) + days_of old.span ≡ cell_count stations + days_of new.span
    cells_replaced =
        let e = ap (λ (s : KeptDays). days_of s.span) h.was in
        omega (arith, e, sum_by-set (λ s. days_of s.span) stations place new old h.here.within)

    -- the counts that are kept beside
    pub keeps_replaced : (pending cells first unclaimed pending' cells' first' unclaimed' : ℕ) (lent : DayValue)
        → KeepsCounts stations pending cells first unclaimed lent → days_of new.span ≤ days_of_calendar
        → pending' ≡ length (waiting (set stations place new)) → cells' ≡ cell_count (set stations place new)
        → first' ≤ length stations → NonePendingWithin (set stations place new) 0 first'
        → unclaimed' ≤ length stations → NoneUnclaimedWithin (set stations place new) 0 unclaimed'
        → KeepsCounts (set stations place new) pending' cells' first' unclaimed' lent
    keeps_replaced pending cells first unclaimed pending' cells' first' unclaimed' lent k most p c w b u v =
        let n = length-set stations place new in
        let few = k.few in
        record {
          rising = replaced_rises;
          few = omega (arith, n);
          spans = All-set (λ s. days_of s.span ≤ days_of_calendar) stations place new most k.spans;
          pending_days = p;
          kept_cells = c;
          within = omega (arith, n);
          before = b;
          unclaimed_within = omega (arith, n);
          unclaimed_before = v;
          is_empty = k.is_empty;
        }

    pub takes_out : (day : ℤ) → station.TakesOut old new (λ other. int_eq day other) true → length (waiting_of new) ≡ length (waiting_of old)
        → TakesOut stations (set stations place new) site day
    takes_out day m count =
        let cells = cells_replaced in
        let span = ap days_of m.span in
        let pending = pending_replaced in
        record {
          awaited = λ s d. said_same (λ o. option_and_then (λ c. awaited_on c d) o) (ap edit_of (m.edits d)) s;
          out = λ s d. said (λ o. unwrap_or (option_map (λ c. is_out_on c d) o) false) (int_eq day d) true (m.claims d) s;
          value = λ s d. said_same (λ o. unwrap_or (option_map (λ c. value_on c d) o) Empty) (m.values d) s;
          span = λ s. said_same (λ o. option_and_then (λ c. c.span) o) m.span s;
          pending = omega (arith, pending, count);
          cells = omega (arith, cells, span);
        }

    pub publishes : (day : ℤ) (value : DayValue) → station.Publishes old new (λ other. int_eq day other) value
        → length (waiting_of new) + 1 ≡ length (waiting_of old) → Publishes stations (set stations place new) site day value
    publishes day value m count =
        let cells = cells_replaced in
        let span = ap days_of m.span in
        let pending = pending_replaced in
        record {
          awaited = λ s d. said (λ o. option_and_then (λ c. awaited_on c d) o) (int_eq day d) None (edit_gone (int_eq day d) (edit_on new d) (edit_on old d) (m.edits d)) s;
          out = λ s d. said (λ o. unwrap_or (option_map (λ c. is_out_on c d) o) false) (int_eq day d) false (m.claims d) s;
          value = λ s d. said (λ o. unwrap_or (option_map (λ c. value_on c d) o) Empty) (int_eq day d) value (m.values d) s;
          span = λ s. said_same (λ o. option_and_then (λ c. c.span) o) m.span s;
          pending = omega (arith, pending, count);
          cells = omega (arith, cells, span);
        }

    pub marks : (days : List ℤ) (edit : ℕ) → 1 ≤ edit → station.Marks old new (contains_day days) edit → new.span ≡ with_days old.span days
        → Marks stations (set stations place new) site days edit
    marks days edit one m wide =
        let cells = cells_replaced in
        let span = ap days_of wide in
        let before = ap (λ o. days_of (option_and_then (λ (c : KeptDays). c.span) o)) was_there in
        let after = ap (λ o. days_of (with_days (option_and_then (λ (c : KeptDays). c.span) o) days)) was_there in
        record {
          awaited = λ s d. said (λ o. option_and_then (λ c. awaited_on c d) o) (contains_day days d) (Some edit)
              (edit_marked (contains_day days d) (edit_on new d) (edit_on old d) edit one (m.edits d)) s;
          out = λ s d. said (λ o. unwrap_or (option_map (λ c. is_out_on c d) o) false) (contains_day days d) false (m.claims d) s;
          value = λ s d. said_same (λ o. unwrap_or (option_map (λ c. value_on c d) o) Empty) (m.values d) s;
          span = λ s. whole_by (λ o. option_and_then (λ c. c.span) o) (λ x. with_days x days) wide s (same_site site s) refl;
          cells = omega (arith, cells, span, before, after);
        }

-- cells without room for any day
pub no_room : (stations : List KeptDays) (site : SiteNumber) (days : List ℤ) → station_of stations site ≡ None → HasRoom stations site days → days ≡ []
no_room stations site [] none h = refl
no_room stations site (d ∷ days) none h = absurd (let r = h 0 d (omega arith) in rw none at r)

both_same : {X : Type 0} (b : Bool) (x : X) → cond b x x ≡ x
both_same true x = refl
both_same false x = refl

never_both : {X : Type 0} (b : Bool) (x y : X) → cond (b && false) x y ≡ y
never_both true x y = refl
never_both false x y = refl

pub marks_none : (stations : List KeptDays) (site : SiteNumber) (days : List ℤ) (edit : ℕ) → days ≡ [] → Marks stations stations site days edit
marks_none stations site [] edit e = record {
  awaited = λ s d. sym (never_both (same_site site s) (Some edit) (awaited_in stations s d));
  out = λ s d. sym (never_both (same_site site s) false (unwrap_or (option_map (λ c. is_out_on c d) (station_of stations s)) false));
  value = λ s d. refl;
  span = λ s. sym (both_same (same_site site s) (span_in stations s));
  cells = omega arith;
}
marks_none stations site (d ∷ days) edit e = absurd (cc)

-- the days that were not pending before
not_pending : (n : ℕ) → not (nat_lt 0 n) ≡ is_none (edit_of n)
not_pending zero = refl
not_pending (suc n) = grind arith

pub fresh_days : (old : KeptDays) (days : List ℤ) → count_by (λ d. not (is_pending_on old d)) days ≡ count_by (λ d. is_none (awaited_on old d)) days
fresh_days old days =
    sym (length-filter (λ d. not (is_pending_on old d)) days)
    ∙ ap length (filter_agree (λ d. not (is_pending_on old d)) (λ d. is_none (awaited_on old d)) (λ d. not_pending (edit_on old d)) days)
    ∙ length-filter (λ d. is_none (awaited_on old d)) days

-- a day that awaits an edit is pending, and its station is there
some_edit : (n : ℕ) → IsSome (edit_of n) → nat_lt 0 n ≡ true
some_edit zero h = absurd (false≢true h)
some_edit (suc n) h = grind arith

pub is_pending_there : (stations : List KeptDays) (site : SiteNumber) (day : ℤ) (old : KeptDays) → station_of stations site ≡ Some old
    → IsSome (awaited_in stations site day) → is_pending_on old day ≡ true
is_pending_there stations site day old e h = some_edit (edit_on old day) (rw e at h)

-- the cells of a station that is there
nobody : SiteNumber → KeptDays
nobody site = record { site = site; start = pos 0; awaits = []; claims = []; values = []; span = None }

pub count_there : (stations : List KeptDays) (site : SiteNumber) (place n : ℕ) → IsPlace stations site place
    → ((d : KeptDays) → n ≡ days_of (get_or stations place d).span) → n ≡ days_of (span_in stations site)
count_there stations site place n here count =
    count (nobody site) ∙ sym (ap (λ o. days_of (option_and_then (λ (s : KeptDays). s.span) o)) (here.found (nobody site)))

pub count_part : (stations : List KeptDays) (site : SiteNumber) (place n : ℕ) → IsPlace stations site place
    → ((d : KeptDays) → n ≡ days_of (get_or stations place d).span) → n ≤ cell_count stations
count_part stations site place n here count =
    let a = count (nobody site) in
    let b = cells_part stations place (nobody site) here.within in
    omega (arith, a, b)

-- a write after which no memory of the places is kept past it
pub first_again : (P : KeptDays → Type 0) (stations : List KeptDays) (place first from next : ℕ) (new : KeptDays) → AllWithin P stations 0 first
    → from ≡ min first place → AllWithin P (set stations place new) from next → AllWithin P (set stations place new) 0 next
first_again P stations place first from next new before e between =
    joined_within P (set stations place new) (min first place) next (below_set P stations place first new before)
    (subst (λ n. AllWithin P (set stations place new) n next) e between)

pub first_back : (P : KeptDays → Type 0) (stations : List KeptDays) (place first from : ℕ) (new : KeptDays) → AllWithin P stations 0 first
    → from ≡ min first place → AllWithin P (set stations place new) 0 from
first_back P stations place first from new before e =
    subst (λ n. AllWithin P (set stations place new) 0 n) (sym e) (below_set P stations place first new before)

-- a change that says nothing new
flat_set : {X : Type 0} (f : KeptDays → List X) (xs : List KeptDays) (place : ℕ) (new d : KeptDays) → place < length xs
    → f new ≡ f (get_or xs place d) → flat_map f (set xs place new) ≡ flat_map f xs
flat_set f [] place new d l e = refl
flat_set f (x ∷ xs) zero new d l e = rw e refl
flat_set f (x ∷ xs) (suc place) new d l e = ap (λ ys. f x ++ ys) (flat_set f xs place new d (omega arith) e)

pub same_replaced : (stations : List KeptDays) (site : SiteNumber) (place : ℕ) (old new : KeptDays) → IsReplaced stations site place old new
    → station.SaysTheSame old new → waiting_of new ≡ waiting_of old → SaysTheSame stations (set stations place new)
same_replaced stations site place old new h m w =
    let cells = cells_replaced stations site place old new h in
    let span = ap days_of m.span in
    record {
      awaited = λ s d. said_same stations site place old new h (λ o. option_and_then (λ c. awaited_on c d) o) (ap edit_of (m.edits d)) s;
      out = λ s d. said_same stations site place old new h (λ o. unwrap_or (option_map (λ c. is_out_on c d) o) false) (m.claims d) s;
      value = λ s d. said_same stations site place old new h (λ o. unwrap_or (option_map (λ c. value_on c d) o) Empty) (m.values d) s;
      span = λ s. said_same stations site place old new h (λ o. option_and_then (λ c. c.span) o) m.span s;
      waiting = flat_set waiting_of stations place new old h.here.within (w ∙ ap waiting_of h.was);
      cells = omega (arith, cells, span);
    }

-- a station without cells says nothing
nothing_on : {X : Type 0} (start : ℤ) (z : X) (day : ℤ) → on_day start [] z day ≡ z
nothing_on start z day = by_day start day (λ l. on_day_before start [] z day l) (λ k e. on_day_at start [] z day k e)

pub none_waiting_there : (site : SiteNumber) (start : ℤ) → waiting_of (record { site = site; start = start; awaits = []; claims = []; values = []; span = None }) ≡ []
none_waiting_there site start =
    let fresh : KeptDays = record { site = site; start = start; awaits = []; claims = []; values = []; span = None } in
    ap (map (waiting_on fresh)) (filter_none (is_pending_on fresh) calendar (λ k d l. ap (λ n. nat_lt 0 n) (nothing_on start 0 (get_or calendar k d))))

module _ (stations : List KeptDays) (site : SiteNumber) (place : ℕ) (new : KeptDays) where
  pub record IsAdded : Type 0 where
    pub rising : IsRising station_rank stations
    pub gap : IsGap stations site place
    pub site_is : new.site ≡ site
    pub start : ℤ
    pub says : station.SaysTheSame (record { site = site; start = start; awaits = []; claims = []; values = []; span = None }) new
    pub none : waiting_of new ≡ []

  module _ (h : IsAdded) where
    rank_added : station_rank new ≡ site_place site
    rank_added = ap site_place h.site_is

    added_is_put : insert stations place new ≡ put station_rank new stations
    added_is_put =
        let a = h.gap.front ∙ ap (λ n. before station_rank n stations) (sym rank_added) in
        let b = h.gap.back ∙ ap (λ n. after station_rank n stations) (sym rank_added) in
        rw (a, b) refl

    added_here : (s : SiteNumber) → same_site site s ≡ true → station_of (insert stations place new) s ≡ Some new
    added_here s e =
        ap (λ xs. station_of xs s) added_is_put ∙ ap (λ n. at station_rank n (put station_rank new stations)) (sym (site_yes site s e) ∙ sym rank_added)
        ∙ at_put station_rank new stations

    pub added_there : station_of (insert stations place new) site ≡ Some new
    added_there = added_here site (is_itself site)

    nothing_by : {X : Type 0} (f : Option KeptDays → X) → f (Some new) ≡ f None → (s : SiteNumber) (b : Bool) → same_site site s ≡ b
        → f (station_of (insert stations place new) s) ≡ f (station_of stations s)
    nothing_by f e s true k =
        ap f (added_here s k) ∙ e ∙ ap f (sym (ap (λ n. at station_rank n stations) (sym (site_yes site s k)) ∙ h.gap.none))
    nothing_by f e s false k =
        ap f (ap (λ xs. station_of xs s) added_is_put ∙ at_put_other station_rank new (site_place s) stations (λ m. site_no site s k (sym rank_added ∙ m)))

    span_none : new.span ≡ None
    span_none = h.says.span

    waiting_added : waiting (insert stations place new) ≡ waiting stations
    waiting_added =
        flat_map-append waiting_of (take place stations) (new ∷ drop place stations)
        ∙ ap (λ ws. flat_map waiting_of (take place stations) ++ (ws ++ flat_map waiting_of (drop place stations))) h.none
        ∙ sym (flat_map-append waiting_of (take place stations) (drop place stations))
        ∙ ap (flat_map waiting_of) (take-append-drop place stations)

    cells_added : cell_count (insert stations place new) ≡ cell_count stations
    cells_added =
        let n = ap days_of span_none in
        omega (arith, n, sum_by-insert (λ s. days_of s.span) stations place new)

    pub same_added : SaysTheSame stations (insert stations place new)
    same_added = record {
      awaited = λ s d. nothing_by (λ o. option_and_then (λ c. awaited_on c d) o) (ap edit_of (h.says.edits d ∙ nothing_on h.start 0 d)) s (same_site site s) refl;
      out = λ s d. nothing_by (λ o. unwrap_or (option_map (λ c. is_out_on c d) o) false) (h.says.claims d ∙ nothing_on h.start false d) s (same_site site s) refl;
      value = λ s d. nothing_by (λ o. unwrap_or (option_map (λ c. value_on c d) o) Empty) (h.says.values d ∙ nothing_on h.start Empty d) s (same_site site s) refl;
      span = λ s. nothing_by (λ o. option_and_then (λ c. c.span) o) h.says.span s (same_site site s) refl;
      waiting = waiting_added;
      cells = cells_added;
    }

    below_added : (P : KeptDays → Type 0) (first : ℕ) → AllWithin P stations 0 first → AllWithin P (insert stations place new) 0 (min first place)
    below_added P first b k d low high =
        subst P (sym (get_or-insert_below stations place new d k (omega arith) h.gap.within)) (b k d low (omega arith))

    pub keeps_added : (pending cells first unclaimed first' unclaimed' : ℕ) (lent : DayValue) → KeepsCounts stations pending cells first unclaimed lent
        → length stations < most_stations → first' ≡ min first place → unclaimed' ≡ min unclaimed place
        → KeepsCounts (insert stations place new) pending cells first' unclaimed' lent
    keeps_added pending cells first unclaimed first' unclaimed' lent k few e f =
        let n = length-insert stations place new h.gap.within in
        let w = h.gap.within in
        let zero_days : days_of new.span ≡ 0 = ap days_of span_none in
        record {
          rising = subst (IsRising station_rank) (sym added_is_put) (put_rises station_rank new stations h.rising);
          few = omega (arith, n, few);
          spans = subst (λ (xs : List KeptDays). All (λ s. days_of s.span ≤ days_of_calendar) xs) (sym added_is_put)
              (put_keeps station_rank (λ s. days_of s.span ≤ days_of_calendar) new stations (omega (arith, zero_days)) k.spans);
          pending_days = k.pending_days ∙ sym (ap length waiting_added);
          kept_cells = k.kept_cells ∙ sym cells_added;
          within = omega (arith, n, w, e);
          before = subst (λ m. NonePendingWithin (insert stations place new) 0 m) (sym e) (below_added (λ s. slice_get (waiting_of s) 0 ≡ None) first k.before);
          unclaimed_within = omega (arith, n, w, f);
          unclaimed_before = subst (λ m. NoneUnclaimedWithin (insert stations place new) 0 m) (sym f) (below_added (λ s. find (λ w. not w.out) (waiting_of s) ≡ None) unclaimed k.unclaimed_before);
          is_empty = k.is_empty;
        }
