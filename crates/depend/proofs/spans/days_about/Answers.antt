-- The station found keeps to its ranges, and the days that are both near and between days that have inputs are common to both.
use Rattle.std.proofs.Common.{subst, sym}
use Rattle.civil_days.specs.Starts.{IsZone}
use Rattle.office_inputs.specs.Kept.{in_force}
use Rattle.office_inputs.specs.Stations.{station_of}
use Rattle.office_inputs.proofs.KeepLemmas.{lent_is}
use Rattle.depend.proofs.IntervalLemmas.{station_is}
use Rattle.depend.proofs.CoverLemmas.{about_cover, common_cover, none_common}
use Rattle.depend.proofs.spans.days_about.Goals as goal

pub near_days-near-requires-clause-zone : goal.near_days-near-requires-clause-zone
near_days-near-requires-clause-zone c =
    let found = lent_is c.station_at.result (station_of (in_force c.args.inputs.now) c.args.place.site) c.in-Some.station c.station_at.ensures c.in-Some.is in
    let own = station_is c.args.inputs.now.kept c.args.place.site c.in-Some.station.now.station c.stations_keep_to_their_ranges.ensures.each found in
    subst IsZone (sym c.zone.ensures) own.zone_is

pub returns-then-not-cells_only : goal.returns-then-not-cells_only
returns-then-not-cells_only c =
    about_cover (in_force c.args.inputs.now) c.args.place.site c.in-Some.station.now.station c.zone.result.now c.args.first c.args.last c.args.cells_only
    c.near_days-near.result.0 c.near_days-near.result.1 c.if-not-cells_only.true
    (lent_is c.station_at.result (station_of (in_force c.args.inputs.now) c.args.place.site) c.in-Some.station c.station_at.ensures c.in-Some.is)
    c.zone.ensures c.near_days-near.ensures

pub returns-in-Some-used_days : goal.returns-in-Some-used_days
returns-in-Some-used_days c =
    common_cover (in_force c.args.inputs.now) c.args.place.site c.in-Some.station.now.station c.zone.result.now c.args.first c.args.last c.args.cells_only
    c.near_days-near.result.0 c.near_days-near.result.1 c.in-Some-used_days.used.0 c.in-Some-used_days.used.1 c.common_days.result.0 c.common_days.result.1
    c.if-not-cells_only.false
    (lent_is c.station_at.result (station_of (in_force c.args.inputs.now) c.args.place.site) c.in-Some.station c.station_at.ensures c.in-Some.is)
    c.zone.ensures c.near_days-near.ensures c.in-Some-used_days.ensures c.common_days.ensures.first c.common_days.ensures.last

pub returns-in-None : goal.returns-in-None
returns-in-None c =
    none_common (in_force c.args.inputs.now) c.args.place.site c.args.first c.args.last c.args.cells_only c.if-not-cells_only.false c.in-None.ensures
