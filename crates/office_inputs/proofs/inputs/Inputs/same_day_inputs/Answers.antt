-- A station that is kept is asked itself; one that is not is added, and has no readings.
use Rattle.std.proofs.Common.{sym, ◌∙◌}
use Rattle.office_inputs.specs.Kept.{in_force}
use Rattle.office_inputs.specs.Stations.{station_of}
use Rattle.office_inputs.proofs.KeepLemmas.{add_told, adds_none, change_told, lent_is, lent_none}
use Rattle.office_inputs.proofs.inputs.Inputs.same_day_inputs.Goals as goal

pub returns-in_default-clause-same : goal.returns-in_default-clause-same
returns-in_default-clause-same g c =
    sym (add_told c.args.self.now.limits (in_force c.args.self.now) c.args.edit.now c.args.day c.requires
    (lent_none c.station.result (station_of (in_force c.args.self.now) c.args.edit.now.site) c.station.ensures c.in_default.not-Some))

pub returns-clause-same : goal.returns-clause-same
returns-clause-same g c =
    let there = lent_is c.station.result (station_of (in_force c.args.self.now) c.args.edit.now.site) c.in-Some.station c.station.ensures c.in-Some.is in
    c.same_day_inputs.ensures.same
    ∙ change_told (in_force c.args.self.now) c.args.edit.now c.in-Some.station.now.station c.args.day
    (adds_none c.args.self.now.limits (in_force c.args.self.now) c.args.edit.now c.in-Some.station.now.station c.requires there) there
