-- What the readings tell of the window is what changes the day's inputs.
use Rattle.readings.specs.Changes.{changed}
use Rattle.station_inputs.proofs.StationLemmas.{altered_kept}
use Rattle.station_inputs.proofs.stations.Station.keeps_day_changed.Goals as goal

pub returns : goal.returns
returns c =
    altered_kept c.args.self.now _ c.self.view_is c.args.day (changed c.args.change.now) c.bounds-from.result.0 c.bounds-from.result.1 c.alters_window.result
    c.bounds-from.ensures.start c.bounds-from.ensures.end c.alters_window.ensures
