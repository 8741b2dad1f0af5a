-- What the readings lend is the day's window, and it rises.
use Rattle.station_inputs.proofs.WindowSpans.{lent_span, ordered_kept}
use Rattle.station_inputs.proofs.stations.Station.window_span.Goals as goal

pub returns-clause-span : goal.returns-clause-span
returns-clause-span c =
    lent_span c.args.self.now _ c.self.view_is c.args.day c.bounds-from.result.0 c.bounds-from.result.1 _ _ _ c.span_of.result
    c.bounds-from.ensures.start c.bounds-from.ensures.end c.window.ensures.before c.window.ensures.inner c.window.ensures.after c.span_of.ensures

pub returns-clause-ordered : goal.returns-clause-ordered
returns-clause-ordered c = ordered_kept c.args.self.now _ c.self.view_is c.self.invariant c.args.day c.span_of.result (returns-clause-span c)
