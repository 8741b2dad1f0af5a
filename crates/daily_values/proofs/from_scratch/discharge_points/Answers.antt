-- One reading more has one point more.
use Rattle.std.proofs.Common.{subst, sym}
use Rattle.std.specs.Prelude.{All}
use Rattle.std.proofs.lemmas.List.Elements.{All-push}
use Rattle.fixed_units.specs.Quantities.{most_discharge}
use Rattle.daily_values.specs.DayValue.{Point, discharge_point}
use Rattle.daily_values.specs.Figures.{IsValueWithin}
use Rattle.daily_values.proofs.SumLemmas.{points-more}
use Rattle.daily_values.proofs.from_scratch.discharge_points.Goals as goal

pub loop-reading-preserved : goal.loop-reading-preserved
loop-reading-preserved c =
    let P = λ (p : Point). IsValueWithin 0 most_discharge p.1 in
    let before = c.loop-reading.points.items in
    let point = c.discharge_of.result in
    let pushed = c.in_ok-push.ensures.items in
    record {
      points = points-more discharge_point c.args.parts.now c.as_slice-reading-items.result.now c.loop-reading.reading-index c.reading-item.result before c.push.new.self.items point
          c.as_slice-reading-items.ensures c.loop-reading-test.true c.reading-item.is c.discharge_of.ensures.point c.loop-reading.invariant.points pushed;
      within = subst (All P) (sym pushed) (All-push P before point c.loop-reading.invariant.within c.discharge_of.ensures.within);
    }
