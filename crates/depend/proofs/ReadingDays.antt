-- Readings that are put, dropped or flagged change no day but those that the time from the first of them to the last meets.
use Rattle.std.specs.Prelude.{◌≡◌, ◌*◌, Bool, true, false, List, [], ◌∷◌, All, ◌⊎◌, Option, Some, None, ℤ, pos, ◌+ℤ◌, ◌-ℤ◌, ◌≤ℤ◌, ◌<ℤ◌}
use Rattle.std.proofs.Common.{arith, refl, ap, sym, ◌∙◌, inl, inr}
use Rattle.std.proofs.lemmas.Int.{ints, by_lt_z}
use Rattle.std.proofs.lemmas.List.Elements.{All-nil}
use Rattle.fixed_units.specs.Quantities.{IsDay}
use Rattle.fixed_units.specs.declared.readings.Flag.{Flag}
use Rattle.fixed_units.specs.declared.readings.Reading.{Reading}
use Rattle.rising.specs.Ends.{first, last}
use Rattle.rising.proofs.Ends.{last-cons}
use Rattle.rising.proofs.Placing.{filter_rises}
use Rattle.readings.specs.Reach.{IsFar}
use Rattle.readings.specs.Readings as readings
use Rattle.readings.specs.Readings.{IsRising, in_span, is_within, put_all, with_flag, without_span}
use Rattle.readings.specs.Window.{window}
use Rattle.readings.proofs.Comparing.{far_drop_leaves, far_flag_leaves, far_put_leaves}
use Rattle.readings.proofs.FarEnds.{ends_far}
use Rattle.civil_days.proofs.RiseLemmas.{zone_steps}
use Rattle.day_inputs.specs.Equality.{same_inputs}
use Rattle.day_inputs.proofs.EqualityLemmas.{Decides-same_inputs}
use Rattle.day_inputs.specs.DayInputs.{with_window}
use Rattle.edits.specs.Lawful.{ArePutReadings}
use Rattle.office_inputs.specs.Touched.{meets, most_gap_seconds}
use Rattle.station_inputs.specs.KeptStation.{IsStation}
use Rattle.station_inputs.specs.Stations.{StationState, day_start, estimated_discharge, least_cover, station_day, with_readings}
use Rattle.station_inputs.specs.Touched.{about_span, between_readings}
use Rattle.depend.proofs.EntryLemmas.{by_test, gap_seconds}
use Rattle.depend.proofs.TouchedDays.{IsTouchedDay, meets_at}

-- a list without a first element, or without a last one, has none
no_first : (rs : List Reading) → first rs ≡ None → rs ≡ []
no_first [] e = refl
no_first (r ∷ rs) e = absurd (cc)

no_last : (rs : List Reading) → last rs ≡ None → rs ≡ []
no_last [] e = refl
no_last (r ∷ []) e = absurd (cc)
no_last (r ∷ s ∷ rs) e = absurd (let n = no_last (s ∷ rs) (sym (last-cons r s rs) ∙ e) in cc)

-- a change of the readings leaves a window where each reading that it touches is far from the day
abbrev Leaves : (List Reading → List Reading) → List Reading → List Reading → Type 0
Leaves change touched rs = (a b gap : ℤ) → a ≤ℤ b → pos 0 ≤ℤ gap → All (IsFar a b gap) touched → window a b gap (change rs) ≡ window a b gap rs

-- and then the day's inputs
left_day : (s : StationState) (day : ℤ) (change : List Reading → List Reading) (touched : List Reading) → IsStation s → IsDay day → Leaves change touched s.readings
    → All (IsFar (day_start s day) (day_start s (day +ℤ pos 1)) (pos (60 * s.gap))) touched → true ≡ same_inputs (station_day s day) (station_day (with_readings change s) day)
left_day s day change touched k d leaves far =
    let a = day_start s day in
    let b = day_start s (day +ℤ pos 1) in
    let gap = pos (60 * s.gap) in
    let longer = zone_steps s.zone k.zone_is day d.low d.high in
    let same = leaves a b gap (omega (arith, ints)) (omega (arith, ints)) far in
    sym ((Decides-same_inputs (station_day s day) (station_day (with_readings change s) day)).1
    (ap (λ (w : List Reading). with_window s.gap s.stage_array s.discharge_array a b s.corrections s.shifts s.ratings w (estimated_discharge s day) (least_cover s day)) (sym same)))

told_not : (b : Bool) → true ≡ b → b ≡ false → ⊥
told_not b e n = let k : true ≡ false = e ∙ n in absurd (cc)

-- a day that does not meet the time between two instants is far from it
not_met : (first last a b : ℤ) → meets first last a b ≡ false → (b <ℤ (first -ℤ most_gap_seconds)) ⊎ ((last +ℤ most_gap_seconds) <ℤ a)
not_met first last a b h =
    by_lt_z b (first -ℤ most_gap_seconds) (λ l. inl l) (λ l. inr (grind (arith, ints)))

far_readings : (s : StationState) (day : ℤ) (touched : List Reading) (f l : Reading) → IsStation s → IsRising touched → first touched ≡ Some f → last touched ≡ Some l
    → meets_at s f.at l.at day ≡ false → All (IsFar (day_start s day) (day_start s (day +ℤ pos 1)) (pos (60 * s.gap))) touched
far_readings s day touched f l k h e g m =
    let a = day_start s day in
    let b = day_start s (day +ℤ pos 1) in
    ends_far a b (pos (60 * s.gap)) most_gap_seconds touched f l h e g (gap_seconds s.gap k.gap_high) (not_met f.at l.at a b m)

-- so a day that changes meets the time from the first of them to the last
changed_readings : (s : StationState) (day : ℤ) (change : List Reading → List Reading) (touched : List Reading) (o p : Option Reading) → IsStation s → IsDay day → IsRising touched
    → Leaves change touched s.readings → same_inputs (station_day s day) (station_day (with_readings change s) day) ≡ false → first touched ≡ o → last touched ≡ p
    → IsTouchedDay s (between_readings o p) day
changed_readings s day change touched None p k d h leaves n e g =
    told_not _ (left_day s day change touched k d leaves (rw (no_first touched e) (All-nil (IsFar (day_start s day) (day_start s (day +ℤ pos 1)) (pos (60 * s.gap)))))) n
changed_readings s day change touched (Some f) None k d h leaves n e g =
    told_not _ (left_day s day change touched k d leaves (rw (no_last touched g) (All-nil (IsFar (day_start s day) (day_start s (day +ℤ pos 1)) (pos (60 * s.gap)))))) n
changed_readings s day change touched (Some f) (Some l) k d h leaves n e g = (
  by_test (meets_at s f.at l.at day) (λ t. t) (λ m. absurd (told_not _ (left_day s day change touched k d leaves (far_readings s day touched f l k h e g m)) n)),
  λ t. absurd (cc),
)

pub put_day : (s : StationState) (day : ℤ) (rs : List Reading) → IsStation s → IsDay day → ArePutReadings rs
    → same_inputs (station_day s day) (station_day (with_readings (put_all rs) s) day) ≡ false → IsTouchedDay s (between_readings (first rs) (last rs)) day
put_day s day rs k d l n =
    changed_readings s day (put_all rs) rs (first rs) (last rs) k d l.rising
    (λ a b gap o g far. far_put_leaves a b gap rs s.readings k.readings_are.rising o g far) n refl refl

span_rises : (s : StationState) (from to : ℤ) → IsStation s → IsRising (in_span from to s.readings)
span_rises s from to k = filter_rises readings.instant_of (is_within from to) s.readings k.readings_are.rising

pub drop_day : (s : StationState) (day from to : ℤ) → IsStation s → IsDay day
    → same_inputs (station_day s day) (station_day (with_readings (without_span from to) s) day) ≡ false → IsTouchedDay s (about_span from to s.readings) day
drop_day s day from to k d n =
    changed_readings s day (without_span from to) (in_span from to s.readings) (first (in_span from to s.readings)) (last (in_span from to s.readings)) k d (span_rises s from to k)
    (λ a b gap o g far. far_drop_leaves a b gap from to s.readings k.readings_are.rising o g far) n refl refl

pub flag_day : (s : StationState) (day from to : ℤ) (flag : Flag) → IsStation s → IsDay day
    → same_inputs (station_day s day) (station_day (with_readings (with_flag from to flag) s) day) ≡ false → IsTouchedDay s (about_span from to s.readings) day
flag_day s day from to flag k d n =
    changed_readings s day (with_flag from to flag) (in_span from to s.readings) (first (in_span from to s.readings)) (last (in_span from to s.readings)) k d (span_rises s from to k)
    (λ a b gap o g far. far_flag_leaves a b gap from to flag s.readings k.readings_are.rising o g far) n refl refl
