-- The used ones of the day's readings with its neighbours are its window.
use Rattle.station_inputs.proofs.HeldInputs.{window_kept}
use Rattle.station_inputs.proofs.stations.Station.has_window.Goals as goal

pub returns : goal.returns
returns c =
    window_kept c.args.self.now _ c.self.view_is c.args.day c.bounds-from.result.0 c.bounds-from.result.1 _ _ _ c.args.list.now c.window_is.result
    c.bounds-from.ensures.start c.bounds-from.ensures.end c.window.ensures.before c.window.ensures.inner c.window.ensures.after c.window_is.ensures
