-- The published discharge of a day is one that a table counts.
use Rattle.std.proofs.Common.{◌≡◌, refl, sym, subst, ℕ, ◌*◌, ◌≤◌, Bool, true, false, nat_le, List, [], ◌∷◌, Option, Some, None, is_some, if◌then◌else◌, ℤ, pos, arith}
use Rattle.std.proofs.lemmas.Bool.Decides.{nat_tests}
use Rattle.std.proofs.lemmas.Int.{ints}
use Rattle.daily_values.specs.DayValue.{day_value}
use Rattle.daily_values.specs.Figures.{AreFigures, DayFigures, discharge_by, mean_discharge, needed, published_discharge}
use Rattle.daily_values.specs.declared.day_values.DayValue.{DayValue}
use Rattle.daily_values.specs.declared.day_values.DayValue.TheVariants as values
use Rattle.day_inputs.specs.DayInputs.{with_window}
use Rattle.curves.specs.Corrections.{Corrections}
use Rattle.curves.specs.declared.entries.Entry.{Entry}
use Rattle.editions.proofs.CoverLemmas.{need-some}
use Rattle.fixed_units.specs.Published.{published}
use Rattle.fixed_units.specs.Quantities.{SiteNumber}
use Rattle.fixed_units.specs.RoundingArray.{IsRoundingArray}
use Rattle.fixed_units.specs.declared.readings.Reading.{Reading}
use Rattle.history.specs.Accepted.{stations_at}
use Rattle.history.specs.Awaited.{DayAnswer, answer_at, answer_by, awaited, value_at}
use Rattle.history.specs.Awaited as days
use Rattle.history.specs.Events.{Event}
use Rattle.office_inputs.specs.Stations.{station_of}
use Rattle.ratings.specs.Numbered.{StationRatings}
use Rattle.table_writing.specs.Answers.{state_by, state_of}
use Rattle.table_writing.specs.Counted.{HasArray, IfFigures, IsCountedIn}
use Rattle.water_year.specs.declared.rows.RowState.{RowState}
use Rattle.water_year.proofs.CountedLemmas.{published_counted}

-- twice the area over twice what is covered, where that is at least the need
mean_counted : (array : List ℕ) (figures : DayFigures) → IsRoundingArray array → AreFigures figures → (b : Bool) → nat_le (needed figures) figures.discharge.covered ≡ b
    → IsCountedIn (state_by (if b then Some (published array figures.discharge.twice (pos (2 * figures.discharge.covered))) else None))
mean_counted array figures ok are false e = tt
mean_counted array figures ok are true e =
    let long = are.shortest in
    let some : 1 ≤ needed figures = need-some figures.length figures.least (omega (arith, long)) are.least in
    let enough : needed figures ≤ figures.discharge.covered = grind (arith, nat_tests) in
    let low = are.discharge.low in
    let high = are.discharge.high in
    published_counted array figures.discharge.twice (pos (2 * figures.discharge.covered)) ok (omega (arith, ints, some, enough)) (omega (arith, ints, low)) (omega (arith, ints, high))

pub discharge_counted : (figures : DayFigures) → AreFigures figures → IsRoundingArray figures.discharge_array → IsCountedIn (state_by (published_discharge figures))
discharge_counted figures are ok = by figures.estimate refl
  where
    by : (estimate : Option ℤ) → figures.estimate ≡ estimate
        → IsCountedIn (state_by (discharge_by figures.discharge_array estimate (mean_discharge figures)))
    by None is = mean_counted figures.discharge_array figures ok are (nat_le (needed figures) figures.discharge.covered) refl
    by (Some estimate) is =
        let known = rw is at are.estimate in
        let low = known.low in
        let high = known.high in
        published_counted figures.discharge_array estimate (pos 1) ok (omega (arith, ints)) low (omega (arith, ints, high))

-- the array of a day's figures is that of its station
module _ (gap : ℕ) (stages discharges : List ℕ) (from until : ℤ) (corrections : Corrections) (shifts : List Entry) (ratings : StationRatings) where
  array_of_window : (readings : List Reading) (estimate : Option ℤ) (least : Option ℕ) (P : List ℕ → Type 0) → P discharges
      → IfFigures (day_value (with_window gap stages discharges from until corrections shifts ratings readings estimate least)) (λ figures. P figures.discharge_array)
  array_of_window [] None least P p = tt
  array_of_window [] (Some estimate) least P p = p
  array_of_window (r ∷ rs) estimate least P p = p

array_at : (events : List Event) (site : SiteNumber) (day : ℤ) → HasArray events site
    → IfFigures (value_at events site day) (λ figures. IsRoundingArray figures.discharge_array)
array_at events site day has = rw has.1 (array_of_window _ _ has.0.discharge_array _ _ _ _ _ _ _ _ IsRoundingArray has.2)

-- what is answered as computed has that array
pub array_answered : (events : List Event) (site : SiteNumber) (day : ℤ) (value : DayValue) → days.Computed value ≡ answer_at events site day → HasArray events site
    → IfFigures value (λ figures. IsRoundingArray figures.discharge_array)
array_answered events site day value told has =
    subst (λ (v : DayValue). IfFigures v (λ figures. IsRoundingArray figures.discharge_array)) (sym same) (array_at events site day has)
  where
    answered : (kept : Bool) (edit : Option ℕ) → days.Computed value ≡ (if kept then answer_by edit (value_at events site day) else days.NoStation)
        → value ≡ value_at events site day
    answered false edit e = absurd (cc)
    answered true None e = cc
    answered true (Some edit) e = absurd (cc)

    same : value ≡ value_at events site day
    same = answered (is_some (station_of (stations_at events) site)) (awaited events site day) told

-- the state of a day that is answered as computed
pub value_counted : (value : DayValue) (state : RowState) → state ≡ state_of value → IfFigures value (λ figures. IsRoundingArray figures.discharge_array → IsCountedIn state)
    → IfFigures value (λ figures. IsRoundingArray figures.discharge_array) → IsCountedIn state
value_counted values.Empty state is given has = rw is tt
value_counted (values.Day figures) state is given has = given has
