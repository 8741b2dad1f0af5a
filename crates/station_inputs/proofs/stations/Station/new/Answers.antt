-- A station as it is added keeps to what stations do.
use Rattle.std.specs.Arc.{arc_value}
use Rattle.curves.specs.Corrections.{entries_of}
use Rattle.station_inputs.proofs.KeptLemmas.{new_is}
use Rattle.station_inputs.proofs.stations.Station.new.Goals as goal

pub invariant_of-result : goal.invariant_of-result
invariant_of-result c =
    new_is c.args.site c.args.name (arc_value c.args.zone) c.args.gap c.args.stage_array c.args.discharge_array (entries_of c.new.result)
    c.new-2.result.series.entries c.new-3.result.ratings c.new-4.result.list c.new-5.result.list c.new-6.result.list c.new-7.result.list
    c.digits-range.ensures.range c.requires.zone c.requires.gap_low c.requires.gap_high c.new.ensures.first c.new.ensures.second c.new.ensures.third
    c.new-2.ensures c.new-3.ensures c.new-4.ensures.list c.new-5.ensures.list c.new-6.ensures.list c.new-7.ensures
