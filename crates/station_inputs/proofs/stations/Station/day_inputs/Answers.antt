-- The window is of the station's readings, which rise and are of stages, and the entries are of its series.
use Rattle.station_inputs.proofs.StationLemmas.{day_kept, kept_estimate, kept_least, window_stamps}
use Rattle.station_inputs.proofs.stations.Station.day_inputs.Goals as goal

pub returns-clause-kept : goal.returns-clause-kept
returns-clause-kept c =
    day_kept c.with_window.result c.self.inside.gap c.self.inside.stage_array c.self.inside.discharge_array c.bounds-from.result.0
    c.bounds-from.result.1 _ _ _ c.self.inside.readings.list c.in_ok-window.window.items c.estimated_discharge.result c.least_cover.result c.with_window.ensures
    c.self.invariant.gap_low c.self.invariant.gap_high c.bounds-from.ensures.length c.self.invariant.corrections_are c.self.invariant.shifts_are
    c.self.invariant.ratings_are c.self.invariant.readings_are
    (kept_estimate c.args.self.now _ c.self.view_is c.self.invariant c.args.day c.estimated_discharge.result c.estimated_discharge.ensures)
    (kept_least c.args.self.now _ c.self.view_is c.self.invariant c.args.day c.least_cover.result c.least_cover.ensures) c.in_ok-window.ensures

pub with_window-requires : goal.with_window-requires
with_window-requires c =
    window_stamps c.self.inside.gap c.bounds-from.result.0 c.bounds-from.result.1 c.self.inside.readings.list c.in_ok-window.window.items
    c.self.invariant.readings_are c.in_ok-window.ensures
