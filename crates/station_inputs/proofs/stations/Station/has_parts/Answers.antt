-- Part by part.
use Rattle.std.specs.Prelude.{◌≡◌, true}
use Rattle.std.proofs.Common.{sym, ◌∙◌}
use Rattle.station_inputs.specs.Held.{HasBounds, HasSettings}
use Rattle.station_inputs.proofs.HeldInputs.{is_some_day, told_both}
use Rattle.station_inputs.proofs.stations.Station.has_parts.Goals.{then-are_some, else-are_some}
use Rattle.station_inputs.proofs.stations.Station.has_parts.Goals as goal

pub returns-then-has_frame : goal.returns-then-has_frame
returns-then-has_frame c =
    let some : is_some_day c.args.parts.now ≡ true =
    elim c.if-are_some.branch [ then-are_some w ↦ sym c.are_some.ensures ∙ w.if-are_some.true | else-are_some w ↦ absurd (cc) ] in
    let frame : HasSettings c.args.self.now.station c.args.parts.now × HasBounds c.args.self.now.station c.args.day c.args.parts.now =
    elim c.if-are_some.branch [ then-are_some w ↦ w.has_frame.ensures.0 (sym w.value-is ∙ c.if-has_frame.true) | else-are_some w ↦ absurd (cc) ] in
    told_both c.args.self.now.station c.args.day c.args.parts.now c.has_contents.result some frame c.has_contents.ensures
