-- The estimates rise by day.
use Rattle.std.proofs.Common.{ap, sym, ◌∙◌}
use Rattle.rising.specs.Ends.{first, last}
use Rattle.station_inputs.proofs.SpanLemmas.{estimates_kept}
use Rattle.station_inputs.proofs.stations.Station.estimated_span.Goals as goal

pub returns-in-Some-Some : goal.returns-in-Some-Some
returns-in-Some-Some c =
    estimates_kept c.args.self.now _ c.self.view_is c.self.invariant c.in-Some-Some.first.now c.in-Some-Some.last.now
    (sym (c.in-Some-Some.ensures.value ∙ ap first c.as_slice-estimates.ensures.list)) (sym (c.in-Some-Some.ensures'.value ∙ ap last c.as_slice-estimates.ensures.list))
