-- The day's inputs stay where the entries that bear on its window do.
use Rattle.std.proofs.Common.{◌∙◌}
use Rattle.station_inputs.proofs.BearingDays.{spanned, put_told}
use Rattle.station_inputs.proofs.stations.Station.keeps_day_with_entry.Goals as goal

pub returns-in-Some : goal.returns-in-Some
returns-in-Some c =
    c.stays_with.ensures
    ∙ put_told c.args.self.now.station c.args.day c.args.which c.args.entry.now c.in-Some.span.0 c.in-Some.span.1 c.series.result.now.entries
    (spanned c.args.self.now.station c.args.day c.window_span.result c.in-Some.span.0 c.in-Some.span.1 c.window_span.ensures.span c.window_span.ensures.ordered c.in-Some.is)
    (record { entries = c.series.ensures.entries; rising = c.series.ensures.rising })
