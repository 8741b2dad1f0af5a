-- The days of a station that have inputs lie between the least and the greatest of its used readings and of its estimates.
use Rattle.std.specs.Prelude.{◌≡◌, Bool, true, false, cond, ◌&&◌, ◌||◌, List, [], ◌∷◌, find, is_some, reverse, ⊤, Option, Some, None, option_map, All, ℤ, int_lt, pos, ◌+ℤ◌, ◌<ℤ◌, ◌≤ℤ◌}
use Rattle.std.specs.Int.{int_max, int_min}
use Rattle.std.specs.Ordering.{int_eq}
use Rattle.std.proofs.Common.{arith, refl, ap, sym, subst, ◌∙◌}
use Rattle.std.proofs.lemmas.Bool.Decides.{Decides-int_eq}
use Rattle.std.proofs.lemmas.Int.{ints, by_lt_z}
use Rattle.std.proofs.lemmas.List.Elements.{All-cons, All-weaker}
use Rattle.fixed_units.specs.Quantities.{IsDay, IsStamp}
use Rattle.fixed_units.specs.declared.readings.Reading.{Reading}
use Rattle.rising.specs.Ends.{first, last}
use Rattle.rising.specs.Lists as lists
use Rattle.rising.proofs.Ends.{last-cons, last-kept}
use Rattle.rising.proofs.Parting.{lt_yes, yes_lt}
use Rattle.rising.proofs.Selecting.{none_found, All-reverse, AllPairs-head, AllPairs-tail}
use Rattle.readings.specs.Readings.{is_used}
use Rattle.readings.specs.Window.{inner, is_of_day}
use Rattle.readings.proofs.HiddenReadings.{first_earliest, last_latest, not_all_fail, from_reversed, unused_inner, late_inner, early_inner}
use Rattle.civil_days.specs.Starts.{IsIn}
use Rattle.civil_days.proofs.RiseLemmas.{zone_steps, rise}
use Rattle.edits.specs.declared.estimates.Estimate.{Estimate}
use Rattle.station_inputs.specs.KeptStation.{IsStation, AreReadings, KeptStation}
use Rattle.station_inputs.specs.Stations.{StationState, estimated_day, estimated_discharge, station_day, day_start}
use Rattle.station_inputs.specs.Touched.{has_inputs, has_used_reading, IsSpanOf, joined_spans}
use Rattle.station_inputs.proofs.StationLemmas.{is_any, no_any, read_any, filled_told, found_any, found_holds}

abbrev day_inner : StationState → ℤ → List Reading
day_inner s day = inner (day_start s day) (day_start s (day +ℤ pos 1)) s.readings

-- a day without a used reading of its own
none_filled : (s : StationState) (day : ℤ) → day_inner s day ≡ [] → has_used_reading s day ≡ false
none_filled s day e = read_any s day ∙ ap is_any e ∙ no_any Reading

not_none : (o : Option Reading) (b : Bool) → is_some o ≡ b → (o ≡ None → ⊥) → b ≡ true
not_none None b e n = absurd (n refl)
not_none (Some r) b e n = sym e

-- the day of a used reading has one
used_filled : (s : StationState) (day : ℤ) (r : Reading) (rs : List Reading) → find is_used rs ≡ Some r → is_of_day (day_start s day) (day_start s (day +ℤ pos 1)) r ≡ true
    → ((P : Reading → Type 0) → All P s.readings → All P rs) → is_used r ≡ true → has_used_reading s day ≡ true
used_filled s day r rs f i all u =
    let test : Reading → Bool = λ x. is_used x && is_of_day (day_start s day) (day_start s (day +ℤ pos 1)) x in
    let passes : test r ≡ true = rw (u, i) refl in
    read_any s day
    ∙ not_none (find test s.readings) (is_any (day_inner s day)) (found_any test s.readings)
    (λ n. not_all_fail test rs r f passes (all (λ x. test x ≡ false) (none_found test s.readings n)))

start_step : (s : StationState) (a b : ℤ) → IsStation s → IsDay a → IsDay b → a <ℤ b → day_start s (a +ℤ pos 1) ≤ℤ day_start s b
start_step s a b k h i l =
    let low = h.low in
    let high = i.high in
    by_lt_z (a +ℤ pos 1) b
    (λ m. let r = rise (day_start s) (zone_steps s.zone k.zone_is) (a +ℤ pos 1) b (omega (arith, ints)) (omega (arith, ints)) m in omega (arith, ints))
    (λ m. let e : a +ℤ pos 1 ≡ b = omega (arith, ints) in let f = ap (day_start s) e in omega (arith, ints))

-- a day before that of the first used reading has none
first_bounds : (s : StationState) (own day : ℤ) (r : Reading) → IsStation s → find is_used s.readings ≡ Some r → IsDay own → IsIn s.zone own r.at
    → IsDay day → has_used_reading s day ≡ true → own ≤ℤ day
first_bounds s own day r k f o i d h =
    by_lt_z day own
    (λ l.
    let m = start_step s day own k d o l in
    let from = i.from in
    let none = late_inner (day_start s day) (day_start s (day +ℤ pos 1)) r.at s.readings (omega (arith, ints)) (first_earliest s.readings r k.readings_are.rising f) in
    let e = none_filled s day none in absurd (cc))
    (λ l. l)

-- nor has a day behind that of the last
last_bounds : (s : StationState) (own day : ℤ) (r : Reading) → IsStation s → find is_used (reverse s.readings) ≡ Some r → IsDay own → IsIn s.zone own r.at
    → IsDay day → has_used_reading s day ≡ true → day ≤ℤ own
last_bounds s own day r k f o i d h =
    by_lt_z own day
    (λ l.
    let m = start_step s own day k o d l in
    let until = i.until in
    let none = early_inner (day_start s day) (day_start s (day +ℤ pos 1)) r.at s.readings (omega (arith, ints)) (last_latest s.readings r k.readings_are.rising f) in
    let e = none_filled s day none in absurd (cc))
    (λ l. l)

of_day : (s : StationState) (day : ℤ) (r : Reading) → IsIn s.zone day r.at → is_of_day (day_start s day) (day_start s (day +ℤ pos 1)) r ≡ true
of_day s day r i = let from = i.from in let until = i.until in grind (arith, ints)

pub no_span : (s : StationState) → find is_used s.readings ≡ None → IsSpanOf (has_used_reading s) None
no_span s e day d =
    none_filled s day (unused_inner (day_start s day) (day_start s (day +ℤ pos 1)) s.readings (none_found is_used s.readings e))

pub span : (s : StationState) (first last : ℤ) (r t : Reading) → IsStation s → find is_used s.readings ≡ Some r → find is_used (reverse s.readings) ≡ Some t
    → is_used r ≡ true → is_used t ≡ true → IsDay first → IsIn s.zone first r.at → IsDay last → IsIn s.zone last t.at → IsSpanOf (has_used_reading s) (Some (first, last))
span s first last r t k f g u v d i e j = (
  used_filled s first r s.readings f (of_day s first r i) (λ P h. h) u,
  used_filled s last t (reverse s.readings) g (of_day s last t j) (λ P h. All-reverse P s.readings h) v,
  λ day dd h. (first_bounds s first day r k f d i dd h, last_bounds s last day t k g e j dd h),
)

-- where the first is found, so is the last
pub ends_agree_back : (rs : List Reading) (r : Reading) → find is_used rs ≡ Some r → find is_used (reverse rs) ≡ None → ⊥
ends_agree_back rs r f n =
    let all = from_reversed (λ x. is_used x ≡ false) rs (none_found is_used (reverse rs) n) in
    let passes = found_holds (λ x. is_used x ≡ false) is_used rs r all f in
    let a = passes.0 in let b = passes.1 in absurd (cc)

-- a reading that is found in the list of a station stands at a stamp
pub stamp_found : (rs : List Reading) (r : Reading) → AreReadings rs → find is_used rs ≡ Some r → IsStamp r.at
stamp_found rs r h f = (found_holds (λ x. IsStamp x.at) is_used rs r h.stamps f).0

pub stamp_found_last : (rs : List Reading) (r : Reading) → AreReadings rs → find is_used (reverse rs) ≡ Some r → IsStamp r.at
stamp_found_last rs r h f = (found_holds (λ x. IsStamp x.at) is_used (reverse rs) r (All-reverse (λ x. IsStamp x.at) rs h.stamps) f).0

used_is : (rs : List Reading) (r : Reading) → find is_used rs ≡ Some r → is_used r ≡ true
used_is rs r f = (found_holds (λ x. ⊤) is_used rs r (λ k d l. tt) f).1

-- the span of a station that is kept with room
abbrev SpanTold : ℤ → ℤ → Reading → Reading → KeptStation → Type 0
SpanTold first last r t kept =
    IsDay first → IsIn kept.station.zone first r.at → IsDay last → IsIn kept.station.zone last t.at → IsSpanOf (has_used_reading kept.station) (Some (first, last))

pub span_kept : (kept view : KeptStation) → view ≡ kept → IsStation view.station
    → (first last : ℤ) (r t : Reading) → find is_used view.station.readings ≡ Some r → find is_used (reverse view.station.readings) ≡ Some t → SpanTold first last r t kept
span_kept kept view e k first last r t f g =
    subst (SpanTold first last r t) e
    (λ d i h j. span view.station first last r t k f g (used_is view.station.readings r f) (used_is (reverse view.station.readings) t g) d i h j)

pub no_span_kept : (kept view : KeptStation) → view ≡ kept → find is_used view.station.readings ≡ None → IsSpanOf (has_used_reading kept.station) None
no_span_kept kept view e f =
    subst (λ (k : KeptStation). IsSpanOf (has_used_reading k.station) None) e (no_span view.station f)

-- the days of a list of estimates lie between the first and the last
module _ {X : Type 0} (place : X → ℤ) where
  here : (n : ℤ) (x : X) (o : Option X) (b : Bool) → int_eq (place x) n ≡ b → (b ≡ false → is_some o ≡ true) → is_some (cond b (Some x) o) ≡ true
  here n x o true e h = refl
  here n x o false e h = h refl

  first_there : (x : X) (xs : List X) → is_some (lists.at place (place x) (x ∷ xs)) ≡ true
  first_there x xs =
      here (place x) x (lists.at place (place x) xs) (int_eq (place x) (place x)) refl (λ f. absurd (let t = (Decides-int_eq (place x) (place x)).1 refl in cc))

  pub last_there : (xs : List X) (x : X) → last xs ≡ Some x → is_some (lists.at place (place x) xs) ≡ true
  last_there [] x e = absurd (cc)
  last_there (y ∷ []) x e = let f : y ≡ x = cc in subst (λ z. is_some (lists.at place (place z) (y ∷ [])) ≡ true) f (first_there y [])
  last_there (y ∷ z ∷ zs) x e =
      here (place x) y (lists.at place (place x) (z ∷ zs)) (int_eq (place y) (place x)) refl (λ f. last_there (z ∷ zs) x (sym (last-cons y z zs) ∙ e))

  from_first : (x : X) (xs : List X) → lists.IsRising place (x ∷ xs) → All (λ y. place x ≤ℤ place y) (x ∷ xs)
  from_first x xs h =
      All-cons (λ y. place x ≤ℤ place y) x xs (omega (arith, ints))
      (All-weaker (λ y. place x <ℤ place y) (λ y. place x ≤ℤ place y) (λ y l. omega (arith, ints, l)) xs (AllPairs-head (λ y z. place y <ℤ place z) x xs h))

  to_last : (xs : List X) (x : X) → lists.IsRising place xs → last xs ≡ Some x → All (λ y. place y ≤ℤ place x) xs
  to_last [] x h e = absurd (cc)
  to_last (y ∷ []) x h e = let f : y ≡ x = cc in All-cons (λ z. place z ≤ℤ place x) y [] (rw f (omega (arith, ints))) (λ i d l. absurd (omega arith))
  to_last (y ∷ z ∷ zs) x h e =
      let rest = to_last (z ∷ zs) x (AllPairs-tail (λ a b. place a <ℤ place b) y (z ∷ zs) h) (sym (last-cons y z zs) ∙ e) in
      let below = last-kept (λ b. place y <ℤ place b) (z ∷ zs) x (AllPairs-head (λ a b. place a <ℤ place b) y (z ∷ zs) h) (sym (last-cons y z zs) ∙ e) in
      All-cons (λ a. place a ≤ℤ place x) y (z ∷ zs) (omega (arith, ints, below)) rest

  at_holds : (P : X → Type 0) (n : ℤ) (xs : List X) (o : Option X) → All P xs → lists.at place n xs ≡ o → is_some o ≡ true → (x : X) × (P x) × (place x ≡ n)
  at_holds P n xs None h e t = absurd (cc)
  at_holds P n xs (Some x) h e t =
      let k = found_holds P (λ y. int_eq (place y) n) xs x h e in (x, k.0, (Decides-int_eq (place x) n).0 k.1)

  pub between_ends : (n : ℤ) (xs : List X) (f l : X) → lists.IsRising place xs → first xs ≡ Some f → last xs ≡ Some l → is_some (lists.at place n xs) ≡ true
      → (place f ≤ℤ n) × (n ≤ℤ place l)
  between_ends n [] f l h e g t = absurd (cc)
  between_ends n (x ∷ xs) f l h e g t =
      let same : x ≡ f = cc in
      let low = at_holds (λ y. place x ≤ℤ place y) n (x ∷ xs) (lists.at place n (x ∷ xs)) (from_first x xs h) refl t in
      let high = at_holds (λ y. place y ≤ℤ place l) n (x ∷ xs) (lists.at place n (x ∷ xs)) (to_last (x ∷ xs) l h g) refl t in
      (subst (λ z. place z ≤ℤ n) same (subst (λ (m : ℤ). place x ≤ℤ m) low.2 low.1), subst (λ (m : ℤ). m ≤ℤ place l) high.2 high.1)

  pub first_found : (xs : List X) (x : X) → first xs ≡ Some x → is_some (lists.at place (place x) xs) ≡ true
  first_found [] x e = absurd (cc)
  first_found (y ∷ ys) x e = let f : y ≡ x = cc in subst (λ z. is_some (lists.at place (place z) (y ∷ ys)) ≡ true) f (first_there y ys)

some_discharge : (found : Option Estimate) → is_some (option_map (λ (e : Estimate). e.discharge) found) ≡ is_some found
some_discharge None = refl
some_discharge (Some x) = refl

abbrev pub is_estimated : StationState → ℤ → Bool
is_estimated s day = is_some (estimated_discharge s day)

abbrev found_at : StationState → ℤ → Option Estimate
found_at s day = lists.at estimated_day day s.estimates

pub estimated_span : (s : StationState) (f l : Estimate) → IsStation s → first s.estimates ≡ Some f → last s.estimates ≡ Some l → IsSpanOf (is_estimated s) (Some (f.day, l.day))
estimated_span s f l k e g = (
  some_discharge (found_at s f.day) ∙ first_found estimated_day s.estimates f e,
  some_discharge (found_at s l.day) ∙ last_there estimated_day s.estimates l g,
  λ day d h. between_ends estimated_day day s.estimates f l k.estimates_are.rising e g (sym (some_discharge (found_at s day)) ∙ h),
)

not_lt : (a b : ℤ) → int_lt a b ≡ false → b ≤ℤ a
not_lt a b e = by_lt_z a b (λ l. absurd (let t = lt_yes a b l in cc)) (λ l. l)

or_left : (a b : Bool) → a ≡ true → (a || b) ≡ true
or_left a b h = rw h refl

or_right : (a b : Bool) → b ≡ true → (a || b) ≡ true
or_right true b h = refl
or_right false b h = h

or_second : (a b : Bool) → a ≡ false → (a || b) ≡ true → b ≡ true
or_second true b h e = absurd (cc)
or_second false b h e = e

or_first : (a b : Bool) → b ≡ false → (a || b) ≡ true → a ≡ true
or_first true b h e = refl
or_first false b h e = absurd (cc)

min_first : (a b day : ℤ) (t : Bool) → int_lt b a ≡ t → a ≤ℤ day → cond t b a ≤ℤ day
min_first a b day true e h = let l = yes_lt b a e in omega (arith, ints)
min_first a b day false e h = h

min_second : (a b day : ℤ) (t : Bool) → int_lt b a ≡ t → b ≤ℤ day → cond t b a ≤ℤ day
min_second a b day true e h = h
min_second a b day false e h = let l = not_lt b a e in omega (arith, ints)

max_first : (a b day : ℤ) (t : Bool) → int_lt b a ≡ t → day ≤ℤ a → day ≤ℤ cond t a b
max_first a b day true e h = h
max_first a b day false e h = let l = not_lt b a e in omega (arith, ints)

max_second : (a b day : ℤ) (t : Bool) → int_lt b a ≡ t → day ≤ℤ b → day ≤ℤ cond t a b
max_second a b day true e h = let l = yes_lt b a e in omega (arith, ints)
max_second a b day false e h = h

-- two spans joined
abbrev either : (ℤ → Bool) → (ℤ → Bool) → ℤ → Bool
either f g day = f day || g day

pub spans_joined : (f g : ℤ → Bool) (one two : Option (ℤ × ℤ)) → IsSpanOf f one → IsSpanOf g two → IsSpanOf (either f g) (joined_spans one two)
spans_joined f g None None h k = λ day d. let a = h day d in let b = k day d in rw (a, b) refl
spans_joined f g (Some p) None h k = (or_left (f p.0) (g p.0) h.0, or_left (f p.1) (g p.1) h.1, λ day d e. h.2 day d (or_first (f day) (g day) (k day d) e))
spans_joined f g None (Some q) h k = (or_right (f q.0) (g q.0) k.0, or_right (f q.1) (g q.1) k.1, λ day d e. k.2 day d (or_second (f day) (g day) (h day d) e))
spans_joined f g (Some p) (Some q) h k = (
  least p.0 q.0 (int_lt q.0 p.0) h.0 k.0,
  greatest p.1 q.1 (int_lt q.1 p.1) h.1 k.1,
  λ day d e. within day d (f day) refl e,
)
  where
    least : (a b : ℤ) (t : Bool) → f a ≡ true → g b ≡ true → either f g (cond t b a) ≡ true
    least a b true x y = or_right (f b) (g b) y
    least a b false x y = or_left (f a) (g a) x

    greatest : (a b : ℤ) (t : Bool) → f a ≡ true → g b ≡ true → either f g (cond t a b) ≡ true
    greatest a b true x y = or_left (f a) (g a) x
    greatest a b false x y = or_right (f b) (g b) y

    within : (day : ℤ) → IsDay day → (t : Bool) → f day ≡ t → (f day || g day) ≡ true → (int_min p.0 q.0 ≤ℤ day) × (day ≤ℤ int_max p.1 q.1)
    within day d true e t =
        let b = h.2 day d e in
        (min_first p.0 q.0 day (int_lt q.0 p.0) refl b.0, max_first p.1 q.1 day (int_lt q.1 p.1) refl b.1)
    within day d false e t =
        let b = k.2 day d (or_second (f day) (g day) e t) in
        (min_second p.0 q.0 day (int_lt q.0 p.0) refl b.0, max_second p.1 q.1 day (int_lt q.1 p.1) refl b.1)

-- the days that have inputs are those of both
abbrev filled_on : StationState → ℤ → Bool
filled_on s day = has_inputs (station_day s day)

span_as : (f g : ℤ → Bool) (span : Option (ℤ × ℤ)) → ((day : ℤ) → f day ≡ g day) → IsSpanOf f span → IsSpanOf g span
span_as f g None e h = λ day d. sym (e day) ∙ h day d
span_as f g (Some p) e h = (sym (e p.0) ∙ h.0, sym (e p.1) ∙ h.1, λ day d k. h.2 day d (e day ∙ k))

pub used_span : (s : StationState) (one two : Option (ℤ × ℤ)) → IsSpanOf (has_used_reading s) one → IsSpanOf (is_estimated s) two → IsSpanOf (filled_on s) (joined_spans one two)
used_span s one two h k =
    span_as (either (has_used_reading s) (is_estimated s)) (filled_on s) (joined_spans one two) (λ day. filled_told s day)
    (spans_joined (has_used_reading s) (is_estimated s) one two h k)

-- the span of the estimates of a station that is kept with room
pub estimates_kept : (kept view : KeptStation) → view ≡ kept → IsStation view.station → (f l : Estimate) → first view.station.estimates ≡ Some f → last view.station.estimates ≡ Some l
    → IsSpanOf (is_estimated kept.station) (Some (f.day, l.day))
estimates_kept kept view e k f l g h =
    subst (λ (x : KeptStation). IsSpanOf (is_estimated x.station) (Some (f.day, l.day))) e (estimated_span view.station f l k g h)
