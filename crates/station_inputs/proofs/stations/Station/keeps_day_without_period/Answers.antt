-- The day's inputs stay where the parts of the periods that meet its window do.
use Rattle.std.proofs.Common.{sym, ◌∙◌}
use Rattle.ratings.specs.Numbered.{without_period}
use Rattle.station_inputs.proofs.PeriodDays.{periods_kept, no_window_told}
use Rattle.station_inputs.proofs.stations.Station.keeps_day_without_period.Goals as goal

pub returns-in-Some : goal.returns-in-Some
returns-in-Some c =
    periods_kept c.args.self.now _ c.self.view_is c.args.day (without_period c.args.from) c.in-Some.span.0 c.in-Some.span.1 c.keeps_parts_without.result
    c.keeps_parts_without.ensures (sym c.window_span.ensures.span ∙ c.in-Some.is)

pub returns-in-None : goal.returns-in-None
returns-in-None c =
    no_window_told c.args.self.now.station c.args.day (without_period c.args.from) (sym c.window_span.ensures.span ∙ c.in-None.is)
