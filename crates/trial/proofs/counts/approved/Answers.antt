use Rattle.std.proofs.Common.{◌≡◌, ◌<◌, ◌∙◌, ap, arith}
use Rattle.trial.specs.Figures.{approved_of}
use Rattle.trial.proofs.SumLemmas.{station_more, stations_all}
use Rattle.trial.proofs.counts.approved.Goals as goal

pub overflow_add-count : goal.overflow_add-count
overflow_add-count g c =
    let count = c.loop-station.invariant.2 in
    let last : c.loop-station.station < 5 = omega (arith, c.loop-station-test.true) in
    let few = c.approved_days-count.ensures.few in
    omega (arith, count, last, few)

pub loop-station-preserved : goal.loop-station-preserved
loop-station-preserved g c =
    let some = c.loop-station.invariant.0 in
    let count = c.loop-station.invariant.2 in
    let few = c.approved_days-count.ensures.few in (
      omega (arith, some),
      station_more (approved_of c.args.office.now.register.history.events) c.loop-station.station c.loop-station.count c.approved_days-count.result some c.loop-station.invariant.1
          (c.approved_days-count.ensures.approved ∙ ap (approved_of c.args.office.now.register.history.events) c.site_of.ensures),
      omega (arith, some, count, few),
    )

pub returns : goal.returns
returns g c =
    let last : c.loop-station.station ≡ 5 = omega (arith, c.loop-station-test.false) in
    stations_all (approved_of c.args.office.now.register.history.events) c.loop-station.station c.loop-station.count last c.loop-station.invariant.1
