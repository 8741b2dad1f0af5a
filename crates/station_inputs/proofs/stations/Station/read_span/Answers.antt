-- The days of which a reading is used lie between those of the first and the last.
use Rattle.std.proofs.Common.{sym}
use Rattle.station_inputs.proofs.SpanLemmas.{stamp_found, stamp_found_last, span_kept, no_span_kept}
use Rattle.station_inputs.proofs.stations.Station.read_span.Goals as goal

pub day_on-requires : goal.day_on-requires
day_on-requires c = stamp_found c.self.inside.readings.list c.in-Some.first c.self.invariant.readings_are (sym c.in-Some.ensures.first)

pub day_on-requires-in-Some : goal.day_on-requires-in-Some
day_on-requires-in-Some c = stamp_found_last c.self.inside.readings.list c.in-Some.last c.self.invariant.readings_are (sym c.in-Some.ensures.last)

pub returns-in-Some : goal.returns-in-Some
returns-in-Some c =
    span_kept c.args.self.now _ c.self.view_is c.self.invariant c.day_on.result c.day_on-in-Some.result c.in-Some.first c.in-Some.last
    (sym c.in-Some.ensures.first) (sym c.in-Some.ensures.last)
    c.day_on.ensures.day c.day_on.ensures.holds c.day_on-in-Some.ensures.day c.day_on-in-Some.ensures.holds

pub returns-in-None : goal.returns-in-None
returns-in-None c = no_span_kept c.args.self.now _ c.self.view_is (sym c.in-None.ensures.first)
