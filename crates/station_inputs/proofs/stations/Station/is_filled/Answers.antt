-- The day has inputs where a reading of it is used, or where it is estimated.
use Rattle.std.specs.Prelude.{◌||◌, Bool, is_some}
use Rattle.std.proofs.Common.{ap, sym, ◌∙◌}
use Rattle.station_inputs.specs.Stations.{estimated_discharge}
use Rattle.station_inputs.proofs.StationLemmas.{filled_kept}
use Rattle.station_inputs.proofs.stations.Station.is_filled.Goals as goal

pub returns-then-has_used : goal.returns-then-has_used
returns-then-has_used c =
    let q = is_some (estimated_discharge c.args.self.now.station c.args.day) in
    filled_kept c.args.self.now _ c.self.view_is c.args.day c.bounds-from.result.0 c.bounds-from.result.1 c.has_used.result c.has_used.result
    c.bounds-from.ensures.start c.bounds-from.ensures.end c.has_used.ensures (c.if-has_used.true ∙ ap (λ (x : Bool). x || q) (sym c.if-has_used.true))

pub returns-else-has_used : goal.returns-else-has_used
returns-else-has_used c =
    let q = is_some (estimated_discharge c.args.self.now.station c.args.day) in
    filled_kept c.args.self.now _ c.self.view_is c.args.day c.bounds-from.result.0 c.bounds-from.result.1 c.has_used.result c.is_some.result
    c.bounds-from.ensures.start c.bounds-from.ensures.end c.has_used.ensures
    (c.is_some.ensures ∙ ap is_some c.estimated_discharge.ensures ∙ ap (λ (x : Bool). x || q) (sym c.if-has_used.false))
