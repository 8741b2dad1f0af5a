use Rattle.std.proofs.Common.{◌≡◌, ◌∙◌, ap, arith}
use Rattle.trial.specs.Figures.{means_of}
use Rattle.trial.proofs.SumLemmas.{station_more, stations_all}
use Rattle.trial.proofs.counts.total.Goals as goal

pub loop-station-preserved : goal.loop-station-preserved
loop-station-preserved g c =
    let some = c.loop-station.invariant.0 in
    let count = c.loop-station.invariant.2 in
    let few = c.means_of-sum.ensures.few in (
      omega (arith, some),
      station_more (means_of c.args.office.now.register.history.events) c.loop-station.station c.loop-station.sum c.means_of-sum.result some c.loop-station.invariant.1
          (c.means_of-sum.ensures.means ∙ ap (means_of c.args.office.now.register.history.events) c.site_of.ensures),
      omega (arith, some, count, few),
    )

pub returns : goal.returns
returns g c =
    let last : c.loop-station.station ≡ 5 = omega (arith, c.loop-station-test.false) in
    stations_all (means_of c.args.office.now.register.history.events) c.loop-station.station c.loop-station.sum last c.loop-station.invariant.1
