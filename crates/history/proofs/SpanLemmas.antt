-- The days that were ever changed, and the span of them, with one edit more.
use Rattle.std.specs.Prelude.{◌≡◌, Bool, true, false, not, ◌&&◌, ◌||◌, cond, List, [], ◌∷◌, ◌++◌, filter, reverse, Option, Some, None, is_some, ℤ}
use Rattle.std.specs.Int.{int_min, int_max}
use Rattle.std.proofs.Common.{arith, refl, ap, sym, ◌∙◌, inl, inr}
use Rattle.std.proofs.lemmas.Bool.{cases_Bool, false≢true, or_cases}
use Rattle.std.proofs.lemmas.Int.{ints}
use Rattle.std.proofs.lemmas.List.{reverse-append, reverse-reverse}
use Rattle.std.proofs.lemmas.List.Elements.{filter_agree}
use Rattle.std.proofs.lemmas.Grind.{fold-append}
use Rattle.day_cells.specs.Spans.{with_day, with_days}
use Rattle.day_cells.specs.declared.spans.Span.{Span}
use Rattle.edits.specs.declared.content.Edit.{Edit}
use Rattle.fixed_units.specs.Calendar.{calendar}
use Rattle.fixed_units.specs.Quantities.{SiteNumber, same_site}
use Rattle.history.specs.Accepted.{changes, was_changed_back, was_changed, days_ever_changed}
use Rattle.history.proofs.StationLemmas.{station_stays, changed_has_station}
use Rattle.office_inputs.specs.Changes.{keeps_day, changed_days}
use Rattle.office_inputs.specs.Stations.{station_of, stations_of, stations_after}
use Rattle.station_inputs.specs.Stations.{StationState}

min_turned : (a b c : ℤ) → int_min (int_min a b) c ≡ int_min (int_min a c) b
min_turned a b c = grind (arith, ints)

max_turned : (a b c : ℤ) → int_max (int_max a b) c ≡ int_max (int_max a c) b
max_turned a b c = grind (arith, ints)

min_both : (a b : ℤ) → int_min a b ≡ int_min b a
min_both a b = grind (arith, ints)

max_both : (a b : ℤ) → int_max a b ≡ int_max b a
max_both a b = grind (arith, ints)

min_twice : (a b : ℤ) → int_min (int_min a b) b ≡ int_min a b
min_twice a b = grind (arith, ints)

max_twice : (a b : ℤ) → int_max (int_max a b) b ≡ int_max a b
max_twice a b = grind (arith, ints)

min_own : (a : ℤ) → int_min a a ≡ a
min_own a = grind (arith, ints)

max_own : (a : ℤ) → int_max a a ≡ a
max_own a = grind (arith, ints)

span_of : ℤ → ℤ → Option Span
span_of a b = Some (record { first = a; last = b })

spans_same : (a b c d : ℤ) → a ≡ c → b ≡ d → span_of a b ≡ span_of c d
spans_same a b c d e f = rw (e, f) refl

-- days come into a span in any order, and once is enough
turned : (span : Option Span) (a b : ℤ) → with_day (with_day span a) b ≡ with_day (with_day span b) a
unfolding span_of
turned None a b = spans_same (int_min a b) (int_max a b) (int_min b a) (int_max b a) (min_both a b) (max_both a b)
turned (Some span) a b =
    spans_same (int_min (int_min span.first a) b) (int_max (int_max span.last a) b) (int_min (int_min span.first b) a) (int_max (int_max span.last b) a)
    (min_turned span.first a b) (max_turned span.last a b)

twice : (span : Option Span) (a : ℤ) → with_day (with_day span a) a ≡ with_day span a
unfolding span_of
twice None a = spans_same (int_min a a) (int_max a a) a a (min_own a) (max_own a)
twice (Some span) a =
    spans_same (int_min (int_min span.first a) a) (int_max (int_max span.last a) a) (int_min span.first a) (int_max span.last a)
    (min_twice span.first a) (max_twice span.last a)

past : (span : Option Span) (days : List ℤ) (a : ℤ) → with_day (with_days span days) a ≡ with_days (with_day span a) days
past span [] a = refl
past span (d ∷ days) a = past (with_day span d) days a ∙ ap (λ (s : Option Span). with_days s days) (turned span d a)

module _ (p q : ℤ → Bool) where
  joined_step : (span : Option Span) (x : ℤ) (xs : List ℤ) (a b : Bool)
      → ((s : Option Span) → with_days s (filter (λ d. p d || q d) xs) ≡ with_days (with_days s (filter q xs)) (filter p xs))
      → with_days span (cond (a || b) (x ∷ filter (λ d. p d || q d) xs) (filter (λ d. p d || q d) xs))
      ≡ with_days (with_days span (cond b (x ∷ filter q xs) (filter q xs))) (cond a (x ∷ filter p xs) (filter p xs))
  joined_step span x xs true true rec =
      rec (with_day span x)
      ∙ ap (λ (s : Option Span). with_days s (filter p xs))
      (ap (λ (s : Option Span). with_days s (filter q xs)) (sym (twice span x)) ∙ sym (past (with_day span x) (filter q xs) x))
  joined_step span x xs true false rec = rec (with_day span x) ∙ ap (λ (s : Option Span). with_days s (filter p xs)) (sym (past span (filter q xs) x))
  joined_step span x xs false true rec = rec (with_day span x)
  joined_step span x xs false false rec = rec span

  -- the span of days that pass either test
  joined : (xs : List ℤ) (span : Option Span) → with_days span (filter (λ d. p d || q d) xs) ≡ with_days (with_days span (filter q xs)) (filter p xs)
  joined [] span = refl
  joined (x ∷ xs) span = joined_step span x xs (p x) (q x) (joined xs)

none_left : (days : List ℤ) → filter (λ (d : ℤ). false) days ≡ []
none_left [] = refl
none_left (d ∷ days) = none_left days

module _ (edits : List Edit) (edit : Edit) where
  pub stations_more : stations_of (edits ++ edit ∷ []) ≡ stations_after (stations_of edits) edit
  stations_more = fold-append stations_after [] edits (edit ∷ [])

  module _ (site : SiteNumber) where
    was_changed_more : (day : ℤ) → was_changed (edits ++ edit ∷ []) site day ≡ changes (stations_of edits) edit site day || was_changed edits site day
    unfolding was_changed_back
    was_changed_more day =
        ap (λ es. was_changed_back es site day) (reverse-append edits (edit ∷ []))
        ∙ ap (λ es. changes (stations_of es) edit site day || was_changed edits site day) (reverse-reverse edits)

    ever_changed_more : days_ever_changed (edits ++ edit ∷ []) site ≡ filter (λ d. changes (stations_of edits) edit site d || was_changed edits site d) calendar
    ever_changed_more =
        filter_agree (was_changed (edits ++ edit ∷ []) site) (λ d. changes (stations_of edits) edit site d || was_changed edits site d) was_changed_more calendar

    -- the days that the edit changes at the site: those that it changes at its own, or none
    own_changes : same_site edit.site site ≡ true → filter (changes (stations_of edits) edit site) calendar ≡ changed_days (stations_of edits) edit
    own_changes h =
        filter_agree (changes (stations_of edits) edit site) (λ d. not (keeps_day (stations_of edits) edit d))
        (λ d. ap (λ b. b && not (keeps_day (stations_of edits) edit d)) h) calendar

    all_none : (days : List ℤ) → same_site edit.site site ≡ false → filter (changes (stations_of edits) edit site) days ≡ filter (λ (d : ℤ). false) days
    all_none days h = filter_agree (changes (stations_of edits) edit site) (λ (d : ℤ). false) (λ d. ap (λ b. b && not (keeps_day (stations_of edits) edit d)) h) days

    pub span_more : with_days None (days_ever_changed (edits ++ edit ∷ []) site)
        ≡ cond (same_site edit.site site) (with_days (with_days None (days_ever_changed edits site)) (changed_days (stations_of edits) edit)) (with_days None (days_ever_changed edits site))
    span_more =
        let whole = ap (λ (days : List ℤ). with_days None days) ever_changed_more
        ∙ joined (changes (stations_of edits) edit site) (was_changed edits site) calendar None in
        elim (cases_Bool (same_site edit.site site)) [
          | inl y ↦
              whole ∙ ap (λ (days : List ℤ). with_days (with_days None (days_ever_changed edits site)) days) (own_changes y)
              ∙ ap (λ b. cond b (with_days (with_days None (days_ever_changed edits site)) (changed_days (stations_of edits) edit)) (with_days None (days_ever_changed edits site))) (sym y)
          | inr n ↦
              whole ∙ ap (λ (days : List ℤ). with_days (with_days None (days_ever_changed edits site)) days) (all_none calendar n ∙ none_left calendar)
              ∙ ap (λ b. cond b (with_days (with_days None (days_ever_changed edits site)) (changed_days (stations_of edits) edit)) (with_days None (days_ever_changed edits site))) (sym n)
        ]

-- a site of which a day was ever changed is kept
changed_back_has_station : (back : List Edit) (site : SiteNumber) (day : ℤ) → was_changed_back back site day ≡ true → is_some (station_of (stations_of (reverse back)) site) ≡ true
unfolding was_changed_back
changed_back_has_station [] site day h = absurd (false≢true h)
changed_back_has_station (edit ∷ back) site day h =
    let turn : stations_of (reverse (edit ∷ back)) ≡ stations_after (stations_of (reverse back)) edit =
    ap stations_of (reverse-append (edit ∷ []) back) ∙ stations_more (reverse back) edit in
    ap (λ (s : List StationState). is_some (station_of s site)) turn
    ∙ elim (or_cases (changes (stations_of (reverse back)) edit site day) (was_changed_back back site day) h) [
      | inl y ↦ changed_has_station (stations_of (reverse back)) edit site day y
      | inr y ↦ station_stays (stations_of (reverse back)) edit site (changed_back_has_station back site day y)
    ]

pub changed_has_kept : (edits : List Edit) (site : SiteNumber) (day : ℤ) → was_changed edits site day ≡ true → is_some (station_of (stations_of edits) site) ≡ true
changed_has_kept edits site day h =
    ap (λ es. is_some (station_of (stations_of es) site)) (sym (reverse-reverse edits)) ∙ changed_back_has_station (reverse edits) site day h

-- where a site is not kept no day of it was ever changed
pub none_ever_changed : (edits : List Edit) (site : SiteNumber) → is_some (station_of (stations_of edits) site) ≡ false → days_ever_changed edits site ≡ []
none_ever_changed edits site h =
    let never : (day : ℤ) → was_changed edits site day ≡ false = λ day.
    elim (cases_Bool (was_changed edits site day)) [
      | inl y ↦ absurd (false≢true (sym h ∙ changed_has_kept edits site day y))
      | inr n ↦ n
    ] in
    filter_agree (was_changed edits site) (λ (d : ℤ). false) never calendar ∙ none_left calendar
