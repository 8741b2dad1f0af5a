-- The figures keep to what every day's do.
use Rattle.std.proofs.Common.{refl, ap, sym, subst, ℕ, ◌-ℤ◌, arith}
use Rattle.std.proofs.lemmas.Int.{ints}
use Rattle.daily_values.specs.declared.sums.Sum.{Sum}
use Rattle.daily_values.specs.DayValue.{stage_point, discharge_point}
use Rattle.daily_values.specs.Figures.{AreCounts}
use Rattle.daily_values.proofs.AreaLemmas.{covered-le, positive_part-is}
use Rattle.daily_values.proofs.from_scratch.value_of_parts.Goals as goal

pub new-requires : goal.new-requires
new-requires c =
    let day = c.args.parts.now in
    let are = c.requires in
    let length = positive_part-is (day.until -ℤ day.from) (omega (arith, ints, are.shortest)) in
    let stages = covered-le stage_point (λ u. refl) day are in
    let discharges = covered-le discharge_point (λ u. refl) day are in
    let stage = ap (λ (s : Sum). s.covered) c.in_ok-sum_stages.ensures.sum in
    let discharge = ap (λ (s : Sum). s.covered) c.in_ok-sum_discharges.ensures.sum in
    record {
      shortest = omega (arith, ints, length, c.day_length.ensures, are.shortest);
      longest = omega (arith, ints, length, c.day_length.ensures, are.longest);
      counts = subst (λ (n : ℕ). AreCounts n c.count_units.result) (sym c.day_length.ensures) c.count_units.ensures.within;
      stage_covered = omega (arith, stages, stage, c.day_length.ensures);
      discharge_covered = omega (arith, discharges, discharge, c.day_length.ensures);
      stage = c.in_ok-sum_stages.ensures.within;
      discharge = c.in_ok-sum_discharges.ensures.within;
      estimate = are.estimate;
      least = are.least;
    }
