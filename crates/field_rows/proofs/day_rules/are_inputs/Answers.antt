-- What was tested is what the inputs of a day keep to.
use Rattle.std.specs.Prelude.{All, List}
use Rattle.std.proofs.Common.{rules, arith, subst, sym}
use Rattle.std.proofs.lemmas.Int.{ints}
use Rattle.fixed_units.specs.Quantities.{IsStage}
use Rattle.fixed_units.specs.declared.readings.Reading.{Reading}
use Rattle.readings.specs.Readings.{IsRising}
use Rattle.day_inputs.specs.DayInputs.{AreInputs}
use Rattle.field_rows.proofs.day_rules.are_inputs.Goals as goal

pub returns : goal.returns
returns c = λ h.
    let rising : IsRising c.as_slice-window.result.now = search rules in
    let stages : All (λ (r : Reading). IsStage r.raw) c.as_slice-window.result.now = search rules in
    subst AreInputs (sym c.in-Day.is)
    (record {
      gap_low = omega arith;
      gap_high = omega arith;
      shortest = omega (arith, ints, c.get.ensures.value, c.get-2.ensures.value);
      longest = omega (arith, ints, c.get.ensures.value, c.get-2.ensures.value);
      rising = subst IsRising c.as_slice-window.ensures rising;
      stages = subst (λ (rs : List Reading). All (λ (r : Reading). IsStage r.raw) rs) c.as_slice-window.ensures stages;
      first = c.are_rules.ensures.first h;
      second = c.are_rules.ensures.second h;
      third = c.are_rules.ensures.third h;
      shifts = c.are_rules.ensures.shifts h;
      periods = c.are_rules.ensures.periods h;
      estimate = c.are_rules.ensures.estimate h;
      least = c.are_rules.ensures.least h;
    })
