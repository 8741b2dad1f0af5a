-- The same settings keep each day, and others the days without inputs.
use Rattle.std.proofs.Common.{ap, ◌∙◌}
use Rattle.std.specs.Prelude.{not}
use Rattle.station_inputs.proofs.StationLemmas.{described_same, described_other}
use Rattle.station_inputs.proofs.stations.Station.keeps_day_described.Goals as goal

pub returns-then-has_settings : goal.returns-then-has_settings
returns-then-has_settings c name =
    let h = c.has_settings.ensures.0 c.if-has_settings.true in
    described_same c.args.self.now.station c.args.day name c.args.gap c.args.stage_array c.args.discharge_array h.0 h.1 h.2

pub returns : goal.returns
returns c name =
    ap not c.is_filled.ensures
    ∙ described_other c.args.self.now.station c.args.day name c.args.gap c.args.stage_array c.args.discharge_array
    (λ e f g. absurd (let t = c.has_settings.ensures.1 (e, f, g) in let u = c.if-has_settings.false in cc))
