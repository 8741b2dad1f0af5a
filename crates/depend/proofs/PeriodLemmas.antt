-- A period put among those of a station, or taken out, changes no day but those that have inputs and that its time meets.
use Rattle.std.specs.Prelude.{◌≡◌, ◌*◌, ◌&&◌, ℕ, Bool, true, false, not, List, [], ◌∷◌, All, ◌⊎◌, Option, Some, None, ℤ, pos, ◌+ℤ◌, ◌-ℤ◌, ◌≤ℤ◌, int_le}
use Rattle.std.proofs.Common.{arith, refl, ap, sym, subst, ◌∙◌, inl, inr}
use Rattle.std.proofs.lemmas.Int.{ints}
use Rattle.std.proofs.lemmas.List.Elements.{All-head, All-weaker}
use Rattle.fixed_units.specs.Quantities.{IsDay, IsStamp, last_stamp}
use Rattle.fixed_units.specs.declared.readings.Reading.{Reading}
use Rattle.rising.proofs.Parting.{yes_le, yes_lt}
use Rattle.readings.proofs.WindowLemmas.{window_keeps}
use Rattle.civil_days.proofs.RiseLemmas.{zone_steps}
use Rattle.curves.specs.declared.entries.Entry.{Entry}
use Rattle.curves.specs.Corrections.{Corrections}
use Rattle.day_inputs.specs.DayInputs.{last_at, window_ends, with_window}
use Rattle.day_inputs.specs.Equality.{same_inputs}
use Rattle.ratings.specs.Numbered.{StationRatings, period_from, with_period, without_period}
use Rattle.ratings.specs.Parts as parts
use Rattle.ratings.proofs.PeriodChanges.{stays_in_place, stays_with, stays_with_period, stays_without, stays_without_period}
use Rattle.ratings.proofs.PeriodChangeLemmas.{put_changes, taken_changes}
use Rattle.ratings.specs.Periods.{begin, is_before_end}
use Rattle.ratings.specs.Spans.{Span}
use Rattle.office_inputs.specs.Touched.{meets, most_gap_seconds}
use Rattle.office_inputs.proofs.KeepLemmas.{at_place}
use Rattle.station_inputs.specs.KeptStation.{IsStation}
use Rattle.station_inputs.specs.Stations.{StationState, day_start, estimated_discharge, least_cover, station_day, station_window, with_ratings}
use Rattle.station_inputs.specs.Touched.{about_dropped_period, about_period, end_or_last, has_inputs, later_end, period_end}
use Rattle.station_inputs.proofs.PeriodDays.{no_window_told, periods_told}
use Rattle.depend.proofs.CoverLemmas.{greater}
use Rattle.depend.proofs.EntryLemmas.{IsNear, gap_seconds, last_has, window_near}
use Rattle.depend.proofs.TouchedDays.{IsTouchedDay}

-- the ends of a window lie at most the greatest gap tolerance from its day
record AreNear (a b lo hi : ℤ) : Type 0 where
  low : (a -ℤ most_gap_seconds) ≤ℤ lo
  high : hi ≤ℤ (b +ℤ most_gap_seconds)
  stamp : lo ≤ℤ last_stamp

ends_near : (a b gap lo hi : ℤ) (w : List Reading) → gap ≤ℤ most_gap_seconds → All (IsNear a b gap) w → All (λ (r : Reading). IsStamp r.at) w
    → window_ends w ≡ Some (lo, hi) → AreNear a b lo hi
ends_near a b gap lo hi [] g near stamps e = absurd (cc)
ends_near a b gap lo hi (r ∷ rs) g near stamps e =
    let p : ◌≡◌ {A = ℤ × ℤ} (r.at, last_at r rs) (lo, hi) = cc in
    let f : r.at ≡ lo = ap (λ (x : ℤ × ℤ). x.0) p in
    let h : last_at r rs ≡ hi = ap (λ (x : ℤ × ℤ). x.1) p in
    let low = (All-head (IsNear a b gap) r rs near).0 in
    let high = last_has (λ n. n ≤ℤ (b +ℤ gap)) r rs (All-weaker (IsNear a b gap) (λ (x : Reading). x.at ≤ℤ (b +ℤ gap)) (λ x i. i.1) (r ∷ rs) near) in
    let stamp = (All-head (λ (x : Reading). IsStamp x.at) r rs stamps).high in
    record { low = omega (arith, ints); high = omega (arith, ints); stamp = omega (arith, ints) }

day_near : (s : StationState) (day lo hi : ℤ) → IsStation s → IsDay day → window_ends (station_window s day) ≡ Some (lo, hi)
    → AreNear (day_start s day) (day_start s (day +ℤ pos 1)) lo hi
day_near s day lo hi k d e =
    let a = day_start s day in
    let b = day_start s (day +ℤ pos 1) in
    let gap = pos (60 * s.gap) in
    let longer = zone_steps s.zone k.zone_is day d.low d.high in
    ends_near a b gap lo hi (station_window s day) (gap_seconds s.gap k.gap_high)
    (window_near a b gap s.readings (omega (arith, ints)) (omega (arith, ints)))
    (window_keeps (λ (r : Reading). IsStamp r.at) a b gap s.readings k.readings_are.stamps) e

-- a day whose window has ends has inputs
ends_filled : (gap : ℕ) (stages discharges : List ℕ) (from until : ℤ) (sets : Corrections) (shifts : List Entry) (ratings : StationRatings) (w : List Reading) (estimate : Option ℤ) (least : Option ℕ) (lo hi : ℤ)
    → window_ends w ≡ Some (lo, hi) → has_inputs (with_window gap stages discharges from until sets shifts ratings w estimate least) ≡ true
ends_filled gap stages discharges from until sets shifts ratings [] estimate least lo hi e = absurd (cc)
ends_filled gap stages discharges from until sets shifts ratings (r ∷ rs) estimate least lo hi e = refl

pub day_filled : (s : StationState) (day lo hi : ℤ) → window_ends (station_window s day) ≡ Some (lo, hi) → has_inputs (station_day s day) ≡ true
day_filled s day lo hi e =
    ends_filled s.gap s.stage_array s.discharge_array (day_start s day) (day_start s (day +ℤ pos 1)) s.corrections s.shifts s.ratings (station_window s day) (estimated_discharge s day) (least_cover s day) lo hi e

-- a period that meets the time of the window: its own time meets the day
both_of : (b c : Bool) → (b && c) ≡ true → (b ≡ true) × (c ≡ true)
both_of true true e = (refl, refl)
both_of true false e = absurd (cc)
both_of false c e = absurd (cc)

lasts : (lo : ℤ) (until : Option ℤ) → lo ≤ℤ last_stamp → is_before_end lo until ≡ true → lo ≤ℤ end_or_last until
lasts lo None h e = h
lasts lo (Some until) h e = let l = yes_lt lo until e in omega (arith, ints)

met : (lo hi a b end : ℤ) (p : Span) → AreNear a b lo hi → parts.meets lo hi p ≡ true → period_end p ≤ℤ end → meets p.from end a b ≡ true
met lo hi a b end p n m l =
    let both = both_of (int_le p.from hi) (is_before_end lo p.until) m in
    let begins = yes_le p.from hi both.0 in
    let ends = lasts lo p.until n.stamp both.1 in
    let low = n.low in
    let high = n.high in
    grind (arith, ints)

-- one that is put in place of another changes the parts where one of them meets it
some_met : (lo hi : ℤ) (b c : Bool) (q p : Span) → stays_in_place lo hi b c q p ≡ false → (b ≡ true) ⊎ (c ≡ true)
some_met lo hi true c q p e = inl refl
some_met lo hi false true q p e = inr refl
some_met lo hi false false q p e = absurd (cc)

is_met : (b : Bool) → not b ≡ false → b ≡ true
is_met true e = refl
is_met false e = absurd (cc)

put_met : (lo hi a b : ℤ) (p : Span) (o : Option Span) → AreNear a b lo hi → ((q : Span) → o ≡ Some q → q.from ≡ p.from) → stays_with lo hi p o ≡ false
    → meets p.from (later_end p o) a b ≡ true
put_met lo hi a b p None n own e = met lo hi a b (period_end p) p n (is_met (parts.meets lo hi p) e) (omega (arith, ints))
put_met lo hi a b p (Some q) n own e =
    let end = later_end p (Some q) in
    let later = greater (period_end p) (period_end q) in
    let one = later.0 in
    let other = later.1.0 in
    elim (some_met lo hi (parts.meets lo hi q) (parts.meets lo hi p) q p e) [
      | inl m ↦ subst (λ (from : ℤ). meets from end a b ≡ true) (own q refl) (met lo hi a b end q n m other)
      | inr m ↦ met lo hi a b end p n m one
    ]

-- a day keeps its inputs where the part of a period stays, with it and without it
period_told : (s : StationState) (day : ℤ) (p : Span) (lo hi : ℤ) → IsStation s → window_ends (station_window s day) ≡ Some (lo, hi)
    → stays_with_period lo hi p s.ratings.periods ≡ same_inputs (station_day s day) (station_day (with_ratings (with_period p) s) day)
period_told s day p lo hi k e = sym (put_changes lo hi s.ratings.tables p s.ratings.periods k.ratings_are.apart.rising) ∙ periods_told s day (with_period p) lo hi e

no_period_told : (s : StationState) (day from lo hi : ℤ) → IsStation s → window_ends (station_window s day) ≡ Some (lo, hi)
    → stays_without_period lo hi from s.ratings.periods ≡ same_inputs (station_day s day) (station_day (with_ratings (without_period from) s) day)
no_period_told s day from lo hi k e = sym (taken_changes lo hi s.ratings.tables from s.ratings.periods k.ratings_are.apart.rising) ∙ periods_told s day (without_period from) lo hi e

-- what is told of a day that is kept and not kept
kept_not : (b c : Bool) → b ≡ c → b ≡ true → c ≡ false → ⊥
kept_not b c e f g = let k : true ≡ false = sym f ∙ (e ∙ g) in absurd (cc)

put_by_ends : (s : StationState) (day : ℤ) (p : Span) (ends : Option (ℤ × ℤ)) → IsStation s → IsDay day → window_ends (station_window s day) ≡ ends
    → same_inputs (station_day s day) (station_day (with_ratings (with_period p) s) day) ≡ false
    → IsTouchedDay s (about_period p.from (later_end p (period_from p.from s.ratings.periods))) day
put_by_ends s day p None k d e n = absurd (kept_not true _ (no_window_told s day (with_period p) e) refl n)
put_by_ends s day p (Some (lo, hi)) k d e n = (
  put_met lo hi (day_start s day) (day_start s (day +ℤ pos 1)) p (period_from p.from s.ratings.periods) (day_near s day lo hi k d e)
      (at_place begin p.from s.ratings.periods) (period_told s day p lo hi k e ∙ n),
  λ t. day_filled s day lo hi e,
)

pub put_period_day : (s : StationState) (day : ℤ) (p : Span) → IsStation s → IsDay day
    → same_inputs (station_day s day) (station_day (with_ratings (with_period p) s) day) ≡ false
    → IsTouchedDay s (about_period p.from (later_end p (period_from p.from s.ratings.periods))) day
put_period_day s day p k d n = put_by_ends s day p (window_ends (station_window s day)) k d refl n

-- and one that is taken out where it met it
taken_met : (s : StationState) (day lo hi : ℤ) (o : Option Span) → AreNear (day_start s day) (day_start s (day +ℤ pos 1)) lo hi
    → has_inputs (station_day s day) ≡ true → stays_without lo hi o ≡ false → IsTouchedDay s (about_dropped_period o) day
taken_met s day lo hi None n f e = absurd (cc)
taken_met s day lo hi (Some q) n f e =
    (met lo hi (day_start s day) (day_start s (day +ℤ pos 1)) (period_end q) q n (is_met (parts.meets lo hi q) e) (omega (arith, ints)), λ t. f)

drop_by_ends : (s : StationState) (day from : ℤ) (ends : Option (ℤ × ℤ)) → IsStation s → IsDay day → window_ends (station_window s day) ≡ ends
    → same_inputs (station_day s day) (station_day (with_ratings (without_period from) s) day) ≡ false
    → IsTouchedDay s (about_dropped_period (period_from from s.ratings.periods)) day
drop_by_ends s day from None k d e n = absurd (kept_not true _ (no_window_told s day (without_period from) e) refl n)
drop_by_ends s day from (Some (lo, hi)) k d e n =
    taken_met s day lo hi (period_from from s.ratings.periods) (day_near s day lo hi k d e) (day_filled s day lo hi e) (no_period_told s day from lo hi k e ∙ n)

pub dropped_period_day : (s : StationState) (day from : ℤ) → IsStation s → IsDay day
    → same_inputs (station_day s day) (station_day (with_ratings (without_period from) s) day) ≡ false
    → IsTouchedDay s (about_dropped_period (period_from from s.ratings.periods)) day
dropped_period_day s day from k d n = drop_by_ends s day from (window_ends (station_window s day)) k d refl n
