-- Standings with the days of a span put or taken out: what is found at each day, and that they rise.
use Rattle.std.specs.Prelude.{◌≡◌, ℕ, zero, suc, ◌≤◌, Bool, true, false, cond, List, [], ◌∷◌, ◌++◌, length, Some, ℤ, pos, ◌+ℤ◌, ◌<ℤ◌, ◌≤ℤ◌, int_lt, All, if◌then◌else◌}
use Rattle.std.proofs.Common.{arith, refl, ap, sym, subst, ◌∙◌, append_assoc}
use Rattle.std.proofs.lemmas.Bool.Decides.{Decides-int_eq}
use Rattle.std.proofs.lemmas.Int.{ints, by_lt_z}
use Rattle.std.proofs.lemmas.List.{append-nil, length-append}
use Rattle.std.proofs.lemmas.List.Elements.{All-append, All-cons, All-nil, All-weaker}
use Rattle.std.proofs.lemmas.List.Kept.{AllPairs-cons}
use Rattle.fixed_units.specs.Calendar.{days_from}
use Rattle.fixed_units.proofs.CalendarLemmas.{IsAmong}
use Rattle.rising.specs.Lists.{IsRising, before, after, at}
use Rattle.rising.proofs.Parting.{IsAfter, after_is_after, le_no, le_yes, lt_yes, yes_lt}
use Rattle.rising.proofs.Placing.{IsBefore, at_filter, at_front, before_is_before, filter_rises, none_stands, passed_over, some_stands, stands_behind}
use Rattle.rising.proofs.Selecting.{AllPairs-append}
use Rattle.approval.specs.Kept.{day_place, span_length, standing_at, standing_of, standings_from}
use Rattle.approval.specs.Statuses.{Standing, spans, worked}
use Rattle.approval.specs.declared.days.DayStanding.{DayStanding}
use Rattle.approval.specs.declared.status.Status.{Status}

module _ {X : Type 0} (place : X → ℤ) where
  -- an element of a span
  pub record IsInSpan (from to : ℤ) (x : X) : Type 0 where
    pub low : from ≤ℤ place x
    pub high : place x ≤ℤ to

  -- a list with the elements of a span exchanged for others
  abbrev pub exchanged : ℤ → ℤ → List X → List X → List X
  exchanged from to xs mid = before place from xs ++ (mid ++ after place to xs)

  all_before : (n from : ℤ) (xs : List X) → from ≤ℤ n → All (IsBefore place n) (before place from xs)
  all_before n from xs l =
      All-weaker (IsBefore place from) (IsBefore place n) (λ y g. omega (arith, ints, l, g)) (before place from xs) (before_is_before place from xs)

  all_behind : (n to : ℤ) (xs : List X) → n ≤ℤ to → All (IsAfter place n) (after place to xs)
  all_behind n to xs l =
      All-weaker (IsAfter place to) (IsAfter place n) (λ y g. omega (arith, ints, l, g)) (after place to xs) (after_is_after place to xs)

  -- what is found before the span, in it and behind it
  pub found_before : (from to n : ℤ) (xs mid : List X) → from ≤ℤ to → n <ℤ from → All (IsInSpan from to) mid → at place n (exchanged from to xs mid) ≡ at place n xs
  found_before from to n xs mid o l h =
      let later : All (IsAfter place n) (mid ++ after place to xs) =
      All-append (IsAfter place n) mid (after place to xs)
      (All-weaker (IsInSpan from to) (IsAfter place n) (λ y g. let a = g.low in omega (arith, ints, l, a)) mid h)
      (all_behind n to xs (omega (arith, ints, o, l))) in
      at_front place n (before place from xs) (mid ++ after place to xs) (none_stands place n (mid ++ after place to xs) later)
      ∙ at_filter place n (λ x. int_lt (place x) from) (λ x k. let s : place x ≡ n = (Decides-int_eq (place x) n).0 k in lt_yes (place x) from (omega (arith, ints, l, s))) xs

  pub found_in : (from to n : ℤ) (xs mid : List X) → from ≤ℤ n → n ≤ℤ to → at place n (exchanged from to xs mid) ≡ at place n mid
  found_in from to n xs mid l m =
      stands_behind place n (before place from xs) (mid ++ after place to xs) (all_before n from xs l)
      ∙ at_front place n mid (after place to xs) (none_stands place n (after place to xs) (all_behind n to xs m))

  pub found_behind : (from to n : ℤ) (xs mid : List X) → from ≤ℤ to → to <ℤ n → All (IsInSpan from to) mid → at place n (exchanged from to xs mid) ≡ at place n xs
  found_behind from to n xs mid o l h =
      stands_behind place n (before place from xs) (mid ++ after place to xs) (all_before n from xs (omega (arith, ints, o, l)))
      ∙ stands_behind place n mid (after place to xs)
      (All-weaker (IsInSpan from to) (IsBefore place n) (λ y g. let a = g.high in omega (arith, ints, l, a)) mid h)
      ∙ at_filter place n (λ x. int_lt to (place x)) (λ x k. let s : place x ≡ n = (Decides-int_eq (place x) n).0 k in lt_yes to (place x) (omega (arith, ints, l, s))) xs

  no_more_step : (from to : ℤ) (x : X) (xs : List X) (b c : Bool) → int_lt (place x) from ≡ b → int_lt to (place x) ≡ c → from ≤ℤ to
      → length (before place from xs ++ after place to xs) ≤ length xs
      → length (cond b (x ∷ before place from xs) (before place from xs) ++ cond c (x ∷ after place to xs) (after place to xs)) ≤ suc (length xs)
  no_more_step from to x xs true true e f o h = let a = yes_lt (place x) from e in let b = yes_lt to (place x) f in absurd (omega (arith, ints, o, a, b))
  no_more_step from to x xs true false e f o h = omega arith
  no_more_step from to x xs false true e f o h =
      omega (arith, length-append (before place from xs) (after place to xs), length-append (before place from xs) (x ∷ after place to xs))
  no_more_step from to x xs false false e f o h = omega arith

  -- none more stand without the span
  pub no_more : (from to : ℤ) (xs : List X) → from ≤ℤ to → length (before place from xs ++ after place to xs) ≤ length xs
  no_more from to [] o = omega arith
  no_more from to (x ∷ xs) o = no_more_step from to x xs (int_lt (place x) from) (int_lt to (place x)) refl refl o (no_more from to xs o)

  -- it rises
  pub exchanged_rises : (from to : ℤ) (xs mid : List X) → from ≤ℤ to → IsRising place xs → IsRising place mid → All (IsInSpan from to) mid
      → IsRising place (exchanged from to xs mid)
  exchanged_rises from to xs mid o h k w =
      AllPairs-append (λ a b. place a <ℤ place b) (before place from xs) (mid ++ after place to xs) (filter_rises place (λ x. int_lt (place x) from) xs h)
      (AllPairs-append (λ a b. place a <ℤ place b) mid (after place to xs) k (filter_rises place (λ x. int_lt to (place x)) xs h)
      (All-weaker (IsInSpan from to) (λ x. All (IsAfter place (place x)) (after place to xs)) (λ x g. all_behind (place x) to xs g.high) mid w))
      (All-weaker (IsBefore place from) (λ x. All (IsAfter place (place x)) (mid ++ after place to xs))
      (λ x g. All-append (IsAfter place (place x)) mid (after place to xs)
      (All-weaker (IsInSpan from to) (IsAfter place (place x)) (λ y l. let a = l.low in omega (arith, ints, g, a)) mid w)
      (all_behind (place x) to xs (omega (arith, ints, g, o)))) (before place from xs) (before_is_before place from xs))

-- the days of a span in order, each with the same standing
abbrev pub entry : ℤ → Status → ℕ → DayStanding
entry day status edit = record { day = day; status = status; edit = edit }

standings_step : (day : ℤ) (n : ℕ) (status : Status) (edit : ℕ)
    → standings_from day (suc n) status edit ≡ entry day status edit ∷ standings_from (day +ℤ pos 1) n status edit
unfolding days_from
standings_step day n status edit = refl

no_standings : (day : ℤ) (status : Status) (edit : ℕ) → standings_from day 0 status edit ≡ []
unfolding days_from
no_standings day status edit = refl

-- the days that are still to be pushed
pub counted_on : (day to : ℤ) → day ≤ℤ to → span_length day to ≡ suc (span_length (day +ℤ pos 1) to)
counted_on day to l = omega (arith, ints)

pub counted_out : (day to : ℤ) → to <ℤ day → day ≤ℤ (to +ℤ pos 1) → span_length day to ≡ 0
counted_out day to l m = omega (arith, ints)

pub pushed_more : (items more whole : List DayStanding) (day next to : ℤ) (status : Status) (edit : ℕ) → day ≤ℤ to → next ≡ day +ℤ pos 1
    → more ≡ items ++ record { day = day; status = status; edit = edit } ∷ [] → items ++ standings_from day (span_length day to) status edit ≡ whole
    → more ++ standings_from next (span_length next to) status edit ≡ whole
pushed_more items more whole day next to status edit l e f h =
    let n = counted_on day to l in
    let step = standings_step day (span_length (day +ℤ pos 1) to) status edit in
    rw (e, f) (append_assoc items (record { day = day; status = status; edit = edit } ∷ []) (standings_from (day +ℤ pos 1) (span_length (day +ℤ pos 1) to) status edit)
    ∙ ap (λ (l : List DayStanding). items ++ l) (sym step ∙ ap (λ (k : ℕ). standings_from day k status edit) (sym n)) ∙ h)

pub all_pushed : (items whole : List DayStanding) (day to : ℤ) (status : Status) (edit : ℕ) → to <ℤ day → day ≤ℤ (to +ℤ pos 1)
    → items ++ standings_from day (span_length day to) status edit ≡ whole → items ≡ whole
all_pushed items whole day to status edit l m h =
    sym (append-nil items) ∙ ap (λ (l : List DayStanding). items ++ l) (sym (no_standings day status edit)
    ∙ ap (λ (k : ℕ). standings_from day k status edit) (sym (counted_out day to l m))) ∙ h

-- what is found of them
found_first : (from d : ℤ) (n : ℕ) (status : Status) (edit : ℕ) → d ≡ from → at day_place d (standings_from from (suc n) status edit) ≡ Some (entry d status edit)
found_first from d n status edit e =
    ap (at day_place d) (standings_step from n status edit)
    ∙ some_stands day_place d (entry from status edit) (standings_from (from +ℤ pos 1) n status edit) (sym e)
    ∙ ap (λ (k : ℤ). Some (entry k status edit)) (sym e)

pub found_pushed : (from d : ℤ) (n : ℕ) (status : Status) (edit : ℕ) → IsAmong from n d → at day_place d (standings_from from n status edit) ≡ Some (entry d status edit)
found_pushed from d zero status edit w = absurd (let a = w.low in let b = w.high in omega (arith, ints))
found_pushed from d (suc n) status edit w =
    by_lt_z from d
    (λ l. ap (at day_place d) (standings_step from n status edit)
    ∙ passed_over day_place d (entry from status edit) (standings_from (from +ℤ pos 1) n status edit) (λ e. omega (arith, ints, l, e))
    ∙ found_pushed (from +ℤ pos 1) d n status edit (record { low = omega (arith, ints, l); high = let b = w.high in omega (arith, ints) }))
    (λ m. found_first from d n status edit (let a = w.low in omega (arith, ints)))

-- each is of the span, and they rise
pushed_within : (low from : ℤ) (n : ℕ) (status : Status) (edit : ℕ) → low ≤ℤ from → All (λ (s : DayStanding). low ≤ℤ s.day) (standings_from from n status edit)
pushed_within low from zero status edit l =
    subst (λ (xs : List DayStanding). All (λ (s : DayStanding). low ≤ℤ s.day) xs) (sym (no_standings from status edit)) (All-nil (λ (s : DayStanding). low ≤ℤ s.day))
pushed_within low from (suc n) status edit l =
    subst (λ (xs : List DayStanding). All (λ (s : DayStanding). low ≤ℤ s.day) xs) (sym (standings_step from n status edit))
    (All-cons (λ (s : DayStanding). low ≤ℤ s.day) (entry from status edit) (standings_from (from +ℤ pos 1) n status edit) l
    (pushed_within low (from +ℤ pos 1) n status edit (omega (arith, ints, l))))

pushed_below : (from high : ℤ) (n : ℕ) (status : Status) (edit : ℕ) → (from +ℤ pos n) ≤ℤ (high +ℤ pos 1)
    → All (λ (s : DayStanding). s.day ≤ℤ high) (standings_from from n status edit)
pushed_below from high zero status edit l =
    subst (λ (xs : List DayStanding). All (λ (s : DayStanding). s.day ≤ℤ high) xs) (sym (no_standings from status edit)) (All-nil (λ (s : DayStanding). s.day ≤ℤ high))
pushed_below from high (suc n) status edit l =
    subst (λ (xs : List DayStanding). All (λ (s : DayStanding). s.day ≤ℤ high) xs) (sym (standings_step from n status edit))
    (All-cons (λ (s : DayStanding). s.day ≤ℤ high) (entry from status edit) (standings_from (from +ℤ pos 1) n status edit) (omega (arith, ints, l))
    (pushed_below (from +ℤ pos 1) high n status edit (omega (arith, ints, l))))

pushed_in_span : (from to : ℤ) (status : Status) (edit : ℕ) → from ≤ℤ to → All (IsInSpan day_place from to) (standings_from from (span_length from to) status edit)
pushed_in_span from to status edit o =
    let low = pushed_within from from (span_length from to) status edit (omega (arith, ints)) in
    let high = pushed_below from to (span_length from to) status edit (omega (arith, ints, o)) in
    λ k d l. record { low = low k d l; high = high k d l }

pushed_rise : (from : ℤ) (n : ℕ) (status : Status) (edit : ℕ) → IsRising day_place (standings_from from n status edit)
pushed_rise from zero status edit = subst (λ (xs : List DayStanding). IsRising day_place xs) (sym (no_standings from status edit)) (λ i j d l m. absurd (omega arith))
pushed_rise from (suc n) status edit =
    subst (λ (xs : List DayStanding). IsRising day_place xs) (sym (standings_step from n status edit))
    (AllPairs-cons (λ (a b : DayStanding). a.day <ℤ b.day) (entry from status edit) (standings_from (from +ℤ pos 1) n status edit)
    (All-weaker (λ (s : DayStanding). (from +ℤ pos 1) ≤ℤ s.day) (λ (s : DayStanding). from <ℤ s.day) (λ s l. omega (arith, ints, l))
    (standings_from (from +ℤ pos 1) n status edit) (pushed_within (from +ℤ pos 1) (from +ℤ pos 1) n status edit (omega (arith, ints)))) (pushed_rise (from +ℤ pos 1) n status edit))

-- the standing of each day where those of a span are exchanged
exchanged_standing : (from to day : ℤ) (xs mid : List DayStanding) (s : Standing) → from ≤ℤ to → All (IsInSpan day_place from to) mid
    → (from ≤ℤ day → day ≤ℤ to → standing_at mid day ≡ s)
    → standing_at (exchanged day_place from to xs mid) day ≡ (if spans from to day then s else standing_at xs day)
exchanged_standing from to day xs mid s o h k =
    by_lt_z day from
    (λ l. let e = le_no from day l in ap standing_of (found_before day_place from to day xs mid o l h) ∙ rw e refl)
    (λ l. by_lt_z to day
    (λ m. let e = le_yes from day l in let f = le_no day to m in ap standing_of (found_behind day_place from to day xs mid o m h) ∙ rw (e, f) refl)
    (λ m. let e = le_yes from day l in let f = le_yes day to m in ap standing_of (found_in day_place from to day xs mid l m) ∙ k l m ∙ rw (e, f) refl))

pub put_standing : (from to day : ℤ) (xs : List DayStanding) (status : Status) (edit : ℕ) → from ≤ℤ to
    → standing_at (exchanged day_place from to xs (standings_from from (span_length from to) status edit)) day
    ≡ (if spans from to day then record { status = status; edit = edit } else standing_at xs day)
put_standing from to day xs status edit o =
    exchanged_standing from to day xs (standings_from from (span_length from to) status edit) (record { status = status; edit = edit }) o (pushed_in_span from to status edit o)
    (λ l m. ap standing_of (found_pushed from day (span_length from to) status edit (record { low = l; high = omega (arith, ints, l, m) })))

pub put_rises : (from to : ℤ) (xs : List DayStanding) (status : Status) (edit : ℕ) → from ≤ℤ to → IsRising day_place xs
    → IsRising day_place (exchanged day_place from to xs (standings_from from (span_length from to) status edit))
put_rises from to xs status edit o h =
    exchanged_rises day_place from to xs (standings_from from (span_length from to) status edit) o h (pushed_rise from (span_length from to) status edit) (pushed_in_span from to status edit o)

pub taken_standing : (from to day : ℤ) (xs : List DayStanding) → from ≤ℤ to
    → standing_at (exchanged day_place from to xs []) day ≡ (if spans from to day then worked else standing_at xs day)
taken_standing from to day xs o = exchanged_standing from to day xs [] worked o (All-nil (IsInSpan day_place from to)) (λ l m. refl)

pub taken_rises : (from to : ℤ) (xs : List DayStanding) → from ≤ℤ to → IsRising day_place xs → IsRising day_place (exchanged day_place from to xs [])
taken_rises from to xs o h = exchanged_rises day_place from to xs [] o h (λ i j d l m. absurd (omega arith)) (All-nil (IsInSpan day_place from to))
