-- The day's inputs stay where it has no window, or its least cover does.
use Rattle.std.proofs.Common.{sym, ◌∙◌}
use Rattle.rising.specs.Lists as lists
use Rattle.station_inputs.specs.Stations.{edition_day}
use Rattle.station_inputs.proofs.EditionDays.{equality_told, no_window_told}
use Rattle.station_inputs.proofs.stations.Station.keeps_day_with_edition.Goals as goal

pub returns-in-None : goal.returns-in-None
returns-in-None c =
    no_window_told c.args.self.now.station c.args.day (lists.put edition_day c.args.edition.now) (sym c.window_span.ensures.span ∙ c.in-None.is)

pub returns-in-Some : goal.returns-in-Some
returns-in-Some c =
    equality_told c.args.self.now.station c.args.day (lists.put edition_day c.args.edition.now) c.in-Some.field-0 c.least_cover.result c.least_cover_with.result
    c.eq.result (sym c.window_span.ensures.span ∙ c.in-Some.is) c.least_cover.ensures c.least_cover_with.ensures c.eq.ensures
