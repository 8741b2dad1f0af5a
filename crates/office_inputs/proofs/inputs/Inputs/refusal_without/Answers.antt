-- A station more passes the limit, or an addition is not refused.
use Rattle.std.proofs.Common.{ℕ, ap, sym, ◌∙◌}
use Rattle.std.specs.Prelude.{nat_le}
use Rattle.office_inputs.specs.Kept.{in_force}
use Rattle.office_inputs.proofs.ApplyLemmas.{states_rise}
use Rattle.office_inputs.proofs.RefusingLemmas.{one_more, states_length, refused_addition}
use Rattle.office_inputs.proofs.inputs.Inputs.refusal_without.Goals as goal

pub returns-in-AddStation : goal.returns-in-AddStation
returns-in-AddStation c =
    c.station_limit.ensures
    ∙ ap (λ (n : ℕ). one_more (nat_le c.args.self.now.limits.stations n)) (sym (states_length c.args.self.now.kept))
    ∙ refused_addition c.args.self.now.limits (in_force c.args.self.now) c.args.edit.now c.in-AddStation.name c.in-AddStation.zone c.in-AddStation.gap
    c.in-AddStation.stage_array c.in-AddStation.discharge_array (states_rise c.args.self.now.kept c.stations_keep_to_their_ranges.ensures.rising) c.requires c.in-AddStation.is
