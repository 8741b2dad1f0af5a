use Rattle.std.proofs.Common.{◌≡◌, ◌∙◌, ap, arith}
use Rattle.trial.specs.Figures.{kept_one}
use Rattle.trial.proofs.SumLemmas.{station_more, stations_all}
use Rattle.trial.proofs.counts.kept.Goals as goal

pub loop-station-preserved : goal.loop-station-preserved
loop-station-preserved g c =
    let some = c.loop-station.invariant.0 in
    let count = c.loop-station.invariant.2 in
    let few = c.kept_one-count.ensures.few in (
      omega (arith, some),
      station_more (kept_one c.args.office.now.register.history.events) c.loop-station.station c.loop-station.count c.kept_one-count.result some c.loop-station.invariant.1
          (c.kept_one-count.ensures.kept ∙ ap (kept_one c.args.office.now.register.history.events) c.site_of.ensures),
      omega (arith, some, count, few),
    )

pub returns : goal.returns
returns g c =
    let last : c.loop-station.station ≡ 5 = omega (arith, c.loop-station-test.false) in
    stations_all (kept_one c.args.office.now.register.history.events) c.loop-station.station c.loop-station.count last c.loop-station.invariant.1
