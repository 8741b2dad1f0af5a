-- A step takes the pair of the last unit value and the next one.
use Rattle.std.proofs.Common.{refl, subst, ap, sym, ◌∙◌, ◌+◌, ◌+ℤ◌, ◌∷◌, List, drop, arith}
use Rattle.std.specs.Prelude.{map}
use Rattle.fixed_units.specs.Quantities.{IsDischarge, most_discharge, most_millionths}
use Rattle.unit_discharge.specs.declared.unit_values.Unit.{Unit}
use Rattle.unit_discharge.specs.Unit.{most_corrected}
use Rattle.daily_values.specs.declared.sums.Sum.{Sum}
use Rattle.daily_values.specs.DayValue.{Point, unit_of, units_of, neighbours, stage_point, discharge_point, pair_area, pair_seconds}
use Rattle.daily_values.specs.Figures.{IsSumWithin, IsValueWithin}
use Rattle.daily_values.proofs.AreaLemmas.{AreRising, covered-le, discharge-IfSome, none-within, rising-tail, units-rise}
use Rattle.daily_values.proofs.CountLemmas.{AreCountsOfRest, counts-few, counts-start, counts-step, counts-whole}
use Rattle.daily_values.proofs.ExtremeLemmas.{AreExtremesOfRest, extremes-done, extremes-start, extremes-step}
use Rattle.daily_values.proofs.SumLemmas.{IsSumOfRest, next-rises, next-room, next-stage, pair-same, sum-done, sum-is, sum-start, sum-step, units-done, units-start, units-step}
use Rattle.daily_values.proofs.totals.totals_along.Goals as goal

pub loop-reading-init : goal.loop-reading-init
loop-reading-init c =
    let day = c.args.parts.now in
    let units = units_of day in
    let left = c.unit_of-left.result in
    let whole = units-start day c.args.first c.args.rest.now left c.requires.window c.unit_of-left.ensures.unit in
    let stage = c.none-stage.result in
    let discharge = c.none-discharge.result in
    let stages = sum-start day (neighbours (map stage_point units)) stage (ap (λ (s : Sum). s.twice) c.none-stage.ensures) (ap (λ (s : Sum). s.covered) c.none-stage.ensures) in
    let discharges = sum-start day (neighbours (map discharge_point units)) discharge (ap (λ (s : Sum). s.twice) c.none-discharge.ensures) (ap (λ (s : Sum). s.covered) c.none-discharge.ensures) in
    let counted = subst (λ (us : List Unit). AreCountsOfRest day us units c.none.result) (sym whole) (counts-start day units c.none.result c.none.ensures) in
    let kept = subst (λ (us : List Unit). AreExtremesOfRest day us units c.none-extremes.result) (sym whole) (extremes-start day units c.none-extremes.result c.none-extremes.ensures) in
    let one = c.add_unit-counts.ensures in
    record {
      rising = subst AreRising (sym whole) (units-rise day day.window c.requires.parts.rising);
      left_stage = c.unit_of-left.ensures.range;
      left_discharge = c.unit_of-left.ensures.discharge;
      stages = subst (λ (us : List Unit). IsSumOfRest day (neighbours (map stage_point us)) (neighbours (map stage_point units)) stage) (sym whole) stages;
      discharges = subst (λ (us : List Unit). IsSumOfRest day (neighbours (map discharge_point us)) (neighbours (map discharge_point units)) discharge) (sym whole) discharges;
      counted = counts-step day left (map (unit_of day) (drop 0 c.args.rest.now)) units c.none.result c.add_unit-counts.result counted
          (record { readings = one.readings; affected = one.affected; no_rating = one.no_rating; below = one.below; above = one.above });
      extremes = extremes-step day left (map (unit_of day) (drop 0 c.args.rest.now)) units c.none-extremes.result c.add_extremes.new.extremes kept c.add_extremes.ensures;
      stage_fits = subst (IsSumWithin most_millionths most_millionths) (sym c.none-stage.ensures) (none-within most_millionths most_millionths 0 refl);
      discharge_fits = subst (IsSumWithin most_millionths most_millionths) (sym c.none-discharge.ensures) (none-within most_millionths most_millionths 0 refl);
      stage_within = subst (IsSumWithin most_corrected most_corrected) (sym c.none-stage.ensures) (none-within most_corrected most_corrected 0 refl);
      discharge_within = subst (IsSumWithin 0 most_discharge) (sym c.none-discharge.ensures) (none-within 0 most_discharge 0 refl);
    }

pub unit_of-right-requires-clause-stage : goal.unit_of-right-requires-clause-stage
unit_of-right-requires-clause-stage c =
    next-stage c.args.parts.now c.requires.parts c.args.first c.args.rest.now c.loop-reading.reading-index c.reading-item.result
    c.requires.window c.loop-reading-test.true c.reading-item.is

pub add_pair-requires-clause-rising : goal.add_pair-requires-clause-rising
add_pair-requires-clause-rising c =
    next-rises stage_point (λ u. refl) c.args.parts.now c.requires.parts c.args.rest.now c.loop-reading.reading-index c.reading-item.result c.loop-reading.left c.unit_of-right.result _ _
    c.loop-reading-test.true c.reading-item.is c.unit_of-right.ensures.unit c.stage_point.ensures c.stage_point-in-loop-reading.ensures c.loop-reading.invariant.rising

pub add_pair-requires-clause-room : goal.add_pair-requires-clause-room
add_pair-requires-clause-room c =
    next-room stage_point (λ u. refl) c.args.parts.now c.requires.parts c.args.rest.now c.loop-reading.reading-index c.reading-item.result c.loop-reading.left c.unit_of-right.result _ _ c.loop-reading.stage
    c.loop-reading-test.true c.reading-item.is c.unit_of-right.ensures.unit c.stage_point.ensures c.stage_point-in-loop-reading.ensures c.loop-reading.invariant.stages

pub add_pair-requires-in-loop-reading-clause-rising : goal.add_pair-requires-in-loop-reading-clause-rising
add_pair-requires-in-loop-reading-clause-rising c =
    next-rises discharge_point (λ u. refl) c.args.parts.now c.requires.parts c.args.rest.now c.loop-reading.reading-index c.reading-item.result c.loop-reading.left c.unit_of-right.result _ _
    c.loop-reading-test.true c.reading-item.is c.unit_of-right.ensures.unit c.discharge_point.ensures c.discharge_point-in-loop-reading.ensures c.loop-reading.invariant.rising

pub add_pair-requires-in-loop-reading-clause-room : goal.add_pair-requires-in-loop-reading-clause-room
add_pair-requires-in-loop-reading-clause-room c =
    next-room discharge_point (λ u. refl) c.args.parts.now c.requires.parts c.args.rest.now c.loop-reading.reading-index c.reading-item.result c.loop-reading.left c.unit_of-right.result _ _ c.loop-reading.discharge
    c.loop-reading-test.true c.reading-item.is c.unit_of-right.ensures.unit c.discharge_point.ensures c.discharge_point-in-loop-reading.ensures c.loop-reading.invariant.discharges

pub add_unit-counts-requires-in-loop-reading-clause-readings :
    goal.add_unit-counts-requires-in-loop-reading-clause-readings
add_unit-counts-requires-in-loop-reading-clause-readings c =
    (counts-few c.args.parts.now c.requires.parts (map (unit_of c.args.parts.now) (drop c.loop-reading.reading-index c.args.rest.now)) c.loop-reading.counts c.loop-reading.invariant.counted).readings

pub add_unit-counts-requires-in-loop-reading-clause-affected :
    goal.add_unit-counts-requires-in-loop-reading-clause-affected
add_unit-counts-requires-in-loop-reading-clause-affected c =
    (counts-few c.args.parts.now c.requires.parts (map (unit_of c.args.parts.now) (drop c.loop-reading.reading-index c.args.rest.now)) c.loop-reading.counts c.loop-reading.invariant.counted).affected

pub add_unit-counts-requires-in-loop-reading-clause-no_rating :
    goal.add_unit-counts-requires-in-loop-reading-clause-no_rating
add_unit-counts-requires-in-loop-reading-clause-no_rating c =
    (counts-few c.args.parts.now c.requires.parts (map (unit_of c.args.parts.now) (drop c.loop-reading.reading-index c.args.rest.now)) c.loop-reading.counts c.loop-reading.invariant.counted).no_rating

pub add_unit-counts-requires-in-loop-reading-clause-below :
    goal.add_unit-counts-requires-in-loop-reading-clause-below
add_unit-counts-requires-in-loop-reading-clause-below c =
    (counts-few c.args.parts.now c.requires.parts (map (unit_of c.args.parts.now) (drop c.loop-reading.reading-index c.args.rest.now)) c.loop-reading.counts c.loop-reading.invariant.counted).below

pub add_unit-counts-requires-in-loop-reading-clause-above :
    goal.add_unit-counts-requires-in-loop-reading-clause-above
add_unit-counts-requires-in-loop-reading-clause-above c =
    (counts-few c.args.parts.now c.requires.parts (map (unit_of c.args.parts.now) (drop c.loop-reading.reading-index c.args.rest.now)) c.loop-reading.counts c.loop-reading.invariant.counted).above

pub loop-reading-preserved : goal.loop-reading-preserved
loop-reading-preserved c =
    let day = c.args.parts.now in
    let i = c.loop-reading.reading-index in
    let left = c.loop-reading.left in
    let right = c.unit_of-right.result in
    let behind = map (unit_of day) (drop (i + 1) c.args.rest.now) in
    let step = units-step day c.args.rest.now i c.reading-item.result right c.loop-reading-test.true c.reading-item.is c.unit_of-right.ensures.unit in
    let rising = subst (λ (us : List Unit). AreRising (left ∷ us)) step c.loop-reading.invariant.rising in
    let stages = neighbours (map stage_point (units_of day)) in
    let discharges = neighbours (map discharge_point (units_of day)) in
    let stage = subst (λ (us : List Unit). IsSumOfRest day (neighbours (map stage_point (left ∷ us))) stages c.loop-reading.stage) step c.loop-reading.invariant.stages in
    let discharge = subst (λ (us : List Unit). IsSumOfRest day (neighbours (map discharge_point (left ∷ us))) discharges c.loop-reading.discharge) step c.loop-reading.invariant.discharges in
    let counted = subst (λ (us : List Unit). AreCountsOfRest day us (units_of day) c.loop-reading.counts) step c.loop-reading.invariant.counted in
    let kept = subst (λ (us : List Unit). AreExtremesOfRest day us (units_of day) c.loop-reading.extremes) step c.loop-reading.invariant.extremes in
    let stage_pair = pair-same _ _ _ _ c.stage_point.ensures c.stage_point-in-loop-reading.ensures in
    let discharge_pair = pair-same _ _ _ _ c.discharge_point.ensures c.discharge_point-in-loop-reading.ensures in
    let IsStagePoint = λ (p : Point). IsValueWithin most_corrected most_corrected p.1 in
    let IsDischargePoint = λ (p : Point). IsValueWithin 0 most_discharge p.1 in
    let one = c.add_unit-counts-in-loop-reading.ensures in
    record {
      rising = rising-tail (λ (u : Unit). u.at) left (right ∷ behind) rising;
      left_stage = c.unit_of-right.ensures.range;
      left_discharge = c.unit_of-right.ensures.discharge;
      stages = sum-step day (stage_point left, stage_point right) (neighbours (map stage_point (right ∷ behind))) stages c.loop-reading.stage c.add_pair.new.sum stage
          (c.add_pair.ensures.twice ∙ ap (λ p. c.loop-reading.stage.twice +ℤ pair_area day p) stage_pair)
          (c.add_pair.ensures.covered ∙ ap (λ p. c.loop-reading.stage.covered + pair_seconds day p) stage_pair);
      discharges = sum-step day (discharge_point left, discharge_point right) (neighbours (map discharge_point (right ∷ behind))) discharges c.loop-reading.discharge c.add_pair-in-loop-reading.new.sum discharge
          (c.add_pair-in-loop-reading.ensures.twice ∙ ap (λ p. c.loop-reading.discharge.twice +ℤ pair_area day p) discharge_pair)
          (c.add_pair-in-loop-reading.ensures.covered ∙ ap (λ p. c.loop-reading.discharge.covered + pair_seconds day p) discharge_pair);
      counted = counts-step day right behind (units_of day) c.loop-reading.counts c.add_unit-counts-in-loop-reading.result counted
          (record { readings = one.readings; affected = one.affected; no_rating = one.no_rating; below = one.below; above = one.above });
      extremes = extremes-step day right behind (units_of day) c.loop-reading.extremes c.add_extremes-in-loop-reading.new.extremes kept c.add_extremes-in-loop-reading.ensures;
      stage_fits = c.add_pair.ensures.fits;
      discharge_fits = c.add_pair-in-loop-reading.ensures.fits;
      stage_within = c.add_pair.ensures.within most_corrected most_corrected
          (subst IsStagePoint (sym c.stage_point.ensures) c.loop-reading.invariant.left_stage)
          (subst IsStagePoint (sym c.stage_point-in-loop-reading.ensures) c.unit_of-right.ensures.range) c.loop-reading.invariant.stage_within;
      discharge_within = c.add_pair-in-loop-reading.ensures.within 0 most_discharge
          (subst IsDischargePoint (sym c.discharge_point.ensures) (discharge-IfSome (λ q. IsDischarge q) left.discharge c.loop-reading.invariant.left_discharge))
          (subst IsDischargePoint (sym c.discharge_point-in-loop-reading.ensures) (discharge-IfSome (λ q. IsDischarge q) right.discharge c.unit_of-right.ensures.discharge)) c.loop-reading.invariant.discharge_within;
    }

pub returns-clause-stage : goal.returns-clause-stage
returns-clause-stage c =
    let day = c.args.parts.now in
    let all = neighbours (map stage_point (units_of day)) in
    let none = units-done day c.args.rest.now c.loop-reading.reading-index c.loop-reading-test.false in
    let summed = subst (λ (us : List Unit). IsSumOfRest day (neighbours (map stage_point (c.loop-reading.left ∷ us))) all c.loop-reading.stage) none c.loop-reading.invariant.stages in
    let done = sum-done day all c.loop-reading.stage summed in
    sum-is stage_point day c.loop-reading.stage done.0 done.1

pub returns-clause-discharge : goal.returns-clause-discharge
returns-clause-discharge c =
    let day = c.args.parts.now in
    let all = neighbours (map discharge_point (units_of day)) in
    let none = units-done day c.args.rest.now c.loop-reading.reading-index c.loop-reading-test.false in
    let summed = subst (λ (us : List Unit). IsSumOfRest day (neighbours (map discharge_point (c.loop-reading.left ∷ us))) all c.loop-reading.discharge) none c.loop-reading.invariant.discharges in
    let done = sum-done day all c.loop-reading.discharge summed in
    sum-is discharge_point day c.loop-reading.discharge done.0 done.1

pub returns-clause-counts_within : goal.returns-clause-counts_within
returns-clause-counts_within c =
    counts-whole c.args.parts.now c.requires.parts c.args.rest.now c.loop-reading.reading-index c.loop-reading.counts c.loop-reading-test.false c.loop-reading.invariant.counted

pub returns-clause-stage_covered : goal.returns-clause-stage_covered
returns-clause-stage_covered c =
    let all = covered-le stage_point (λ u. refl) c.args.parts.now c.requires.parts in
    omega (arith, all, c.loop-reading.invariant.stages.covered)

pub returns-clause-discharge_covered : goal.returns-clause-discharge_covered
returns-clause-discharge_covered c =
    let all = covered-le discharge_point (λ u. refl) c.args.parts.now c.requires.parts in
    omega (arith, all, c.loop-reading.invariant.discharges.covered)

pub returns-clause-extremes : goal.returns-clause-extremes
returns-clause-extremes c =
    let day = c.args.parts.now in
    let i = c.loop-reading.reading-index in
    extremes-done day (map (unit_of day) (drop i c.args.rest.now)) (units_of day) c.loop-reading.extremes
    (units-done day c.args.rest.now i c.loop-reading-test.false) c.loop-reading.invariant.extremes
