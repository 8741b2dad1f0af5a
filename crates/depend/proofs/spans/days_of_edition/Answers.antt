-- The station found keeps to its ranges, and the days that are both near and between days that have inputs are common to both.
use Rattle.office_inputs.specs.Kept.{in_force}
use Rattle.office_inputs.specs.Stations.{station_of}
use Rattle.office_inputs.proofs.KeepLemmas.{lent_is}
use Rattle.depend.proofs.IntervalLemmas.{station_is}
use Rattle.depend.proofs.EditionLemmas.{edition_common, edition_none}
use Rattle.depend.proofs.spans.days_of_edition.Goals as goal

pub edition_days-near-requires : goal.edition_days-near-requires
edition_days-near-requires c =
    let found = lent_is c.station_at.result (station_of (in_force c.args.inputs.now) c.args.place.site) c.in-Some.station c.station_at.ensures c.in-Some.is in
    station_is c.args.inputs.now.kept c.args.place.site c.in-Some.station.now.station c.stations_keep_to_their_ranges.ensures.each found

pub returns-in-Some-used_days : goal.returns-in-Some-used_days
returns-in-Some-used_days c = λ least.
    edition_common (in_force c.args.inputs.now) c.args.place.site c.in-Some.station.now.station c.args.day c.edition_days-near.result.0 c.edition_days-near.result.1
    c.in-Some-used_days.used.0 c.in-Some-used_days.used.1 c.common_days.result.0 c.common_days.result.1
    (lent_is c.station_at.result (station_of (in_force c.args.inputs.now) c.args.place.site) c.in-Some.station c.station_at.ensures c.in-Some.is)
    c.edition_days-near.ensures c.in-Some-used_days.ensures c.common_days.ensures.first c.common_days.ensures.last least

pub returns-in-None : goal.returns-in-None
returns-in-None c = λ least.
    edition_none (in_force c.args.inputs.now) c.args.place.site c.in-Some.station.now.station c.args.day
    (lent_is c.station_at.result (station_of (in_force c.args.inputs.now) c.args.place.site) c.in-Some.station c.station_at.ensures c.in-Some.is) c.in-None.ensures least
