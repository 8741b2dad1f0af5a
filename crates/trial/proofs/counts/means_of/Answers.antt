use Rattle.std.proofs.Common.{◌≡◌, ◌<◌, ◌∙◌, ap, arith}
use Rattle.std.specs.List.{sum_by}
use Rattle.fixed_units.specs.Calendar.{days_from}
use Rattle.trial.specs.Figures.{first_summed, mean_on}
use Rattle.trial.proofs.SumLemmas.{day_more, days_all}
use Rattle.trial.proofs.counts.means_of.Goals as goal

pub loop-place-preserved : goal.loop-place-preserved
loop-place-preserved g c =
    let some : c.loop-place.place < 397 = omega (arith, c.loop-place-test.true) in
    let few = c.mean_on-sum.ensures.few in
    let count = c.loop-place.invariant.1 in (
      day_more (mean_on c.args.office.now.register.history.events c.args.site) first_summed 397 c.loop-place.place c.loop-place.sum c.mean_on-sum.result
          (sum_by (mean_on c.args.office.now.register.history.events c.args.site) (days_from first_summed 397)) some c.loop-place.invariant.0
          (c.mean_on-sum.ensures.mean ∙ ap (mean_on c.args.office.now.register.history.events c.args.site) c.day_behind.ensures.value),
      omega (arith, few, count),
    )

pub returns-clause-means : goal.returns-clause-means
returns-clause-means g c =
    let last : c.loop-place.place ≡ 397 = omega (arith, c.loop-place-test.false) in
    days_all (mean_on c.args.office.now.register.history.events c.args.site) first_summed 397 c.loop-place.place c.loop-place.sum (sum_by (mean_on c.args.office.now.register.history.events c.args.site) (days_from first_summed 397)) last c.loop-place.invariant.0
