-- What is summed and counted and what is left make up the whole; the sums keep to what the values that they are made of keep to.
use Rattle.std.proofs.Common.{◌∷◌, drop}
use Rattle.std.specs.Prelude.{map, IfOk}
use Rattle.fixed_units.specs.Quantities.{IsDischarge, most_discharge, most_millionths}
use Rattle.unit_discharge.specs.Unit.{IsCorrected, most_corrected}
use Rattle.daily_values.specs.DayValue.{unit_of, units_of, neighbours, stage_point, discharge_point}
use Rattle.daily_values.specs.Figures.{IsSumWithin}
use Rattle.daily_values.proofs.AreaLemmas.{AreRising}
use Rattle.daily_values.proofs.CountLemmas.{AreCountsOfRest}
use Rattle.daily_values.proofs.ExtremeLemmas.{AreExtremesOfRest}
use Rattle.daily_values.proofs.SumLemmas.{IsSumOfRest}
use Rattle.daily_values.proofs.totals.totals_along.Given as goal

abbrev pub invariant-loop-reading : goal.invariant-loop-reading
invariant-loop-reading l = record {
  rising : AreRising (l.left ∷ map (unit_of l.parts) (drop l.reading-index l.rest));
  left_stage : IsCorrected l.left.stage;
  left_discharge : IfOk l.left.discharge (λ q. IsDischarge q);
  stages : IsSumOfRest l.parts (neighbours (map stage_point (l.left ∷ map (unit_of l.parts) (drop l.reading-index l.rest)))) (neighbours (map stage_point (units_of l.parts))) l.stage;
  discharges : IsSumOfRest l.parts (neighbours (map discharge_point (l.left ∷ map (unit_of l.parts) (drop l.reading-index l.rest)))) (neighbours (map discharge_point (units_of l.parts))) l.discharge;
  counted : AreCountsOfRest l.parts (map (unit_of l.parts) (drop l.reading-index l.rest)) (units_of l.parts) l.counts;
  extremes : AreExtremesOfRest l.parts (map (unit_of l.parts) (drop l.reading-index l.rest)) (units_of l.parts) l.extremes;
  stage_fits : IsSumWithin most_millionths most_millionths l.stage;
  discharge_fits : IsSumWithin most_millionths most_millionths l.discharge;
  stage_within : IsSumWithin most_corrected most_corrected l.stage;
  discharge_within : IsSumWithin 0 most_discharge l.discharge;
}
