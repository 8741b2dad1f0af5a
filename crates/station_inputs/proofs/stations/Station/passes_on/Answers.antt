-- By those that are new, or by all of them where they are few.
use Rattle.std.proofs.Common.{◌≡◌, ◌+◌, List, length, ap, subst}
use Rattle.fixed_units.specs.declared.readings.Reading.{Reading}
use Rattle.readings.specs.Readings.{IsRising, put_all}
use Rattle.station_inputs.specs.KeptStation.{KeptStation}
use Rattle.station_inputs.proofs.DayCounts.{few_told, free_of, new_told}
use Rattle.station_inputs.proofs.stations.Station.passes_on.Goals as goal

pub returns-then-readings-free : goal.returns-then-readings-free
returns-then-readings-free c =
    let list = ap (λ (k : KeptStation). k.station.readings) c.self.view_is in
    new_told c.args.self.now.station c.args.day c.args.limit c.saturating_sub-free.result c.count_new.result c.args.readings.now
    (subst (λ (l : List Reading). IsRising l) list c.self.invariant.readings_are.rising) c.requires.within
    (free_of c.args.self.now.station c.args.day c.bounds-from.result.0 c.bounds-from.result.1 c.args.limit c.saturating_sub-free.result c.self.inside.readings.list
    c.between-kept.result.left.now c.between-kept.result.right.now list c.bounds-from.ensures.start c.bounds-from.ensures.end c.between-kept.ensures c.saturating_sub-free.ensures)
    (subst (λ (l : List Reading). length (put_all c.args.readings.now l) ≡ length l + c.count_new.result) list c.count_new.ensures)

pub returns-else-readings-free : goal.returns-else-readings-free
returns-else-readings-free c =
    let list = ap (λ (k : KeptStation). k.station.readings) c.self.view_is in
    few_told c.args.self.now.station c.args.day c.args.limit c.saturating_sub-free.result c.args.readings.now
    (subst (λ (l : List Reading). IsRising l) list c.self.invariant.readings_are.rising) c.requires.within
    (free_of c.args.self.now.station c.args.day c.bounds-from.result.0 c.bounds-from.result.1 c.args.limit c.saturating_sub-free.result c.self.inside.readings.list
    c.between-kept.result.left.now c.between-kept.result.right.now list c.bounds-from.ensures.start c.bounds-from.ensures.end c.between-kept.ensures c.saturating_sub-free.ensures)
    c.if-readings-free.false
