-- No day outside the interval changes, and the days compared cover it.
use Rattle.std.proofs.Common.{◌∙◌, ap}
use Rattle.std.proofs.lemmas.Result.{IfOk-weaker}
use Rattle.office_inputs.specs.Kept.{in_force}
use Rattle.office_inputs.specs.Stations.{station_of}
use Rattle.office_inputs.proofs.KeepLemmas.{lent_is, lent_none}
use Rattle.depend.proofs.ReachLemmas.{found_days, no_days, unkept_days, changed_rise, few_steps}
use Rattle.depend.proofs.reaching.reach_at.Goals as goal

pub returns-in-Some-compared_days_at-clause-days : goal.returns-in-Some-compared_days_at-clause-days
returns-in-Some-compared_days_at-clause-days g c =
    IfOk-weaker c.changed_between.result _ _
    (λ days f. f
    ∙ found_days c.args.inputs.now.limits c.args.inputs.now.kept c.args.edit.now c.in-Some.station.now.station c.in-Some-compared_days_at.span.0
    c.in-Some-compared_days_at.span.1 c.stations_keep_to_their_ranges.ensures c.requires.accepted
    (lent_is c.station_at.result (station_of (in_force c.args.inputs.now) c.args.edit.now.site) c.in-Some.station (c.station_at.ensures ∙ ap (station_of (in_force c.args.inputs.now)) c.requires.place.0) c.in-Some.is)
    c.in-Some-compared_days_at.ensures)
    c.changed_between.ensures.days

pub returns-in-Some-compared_days_at-clause-rising : goal.returns-in-Some-compared_days_at-clause-rising
returns-in-Some-compared_days_at-clause-rising g c =
    IfOk-weaker c.changed_between.result _ _
    (λ days f. changed_rise (in_force c.args.inputs.now) c.args.edit.now days (f
    ∙ found_days c.args.inputs.now.limits c.args.inputs.now.kept c.args.edit.now c.in-Some.station.now.station c.in-Some-compared_days_at.span.0
    c.in-Some-compared_days_at.span.1 c.stations_keep_to_their_ranges.ensures c.requires.accepted
    (lent_is c.station_at.result (station_of (in_force c.args.inputs.now) c.args.edit.now.site) c.in-Some.station (c.station_at.ensures ∙ ap (station_of (in_force c.args.inputs.now)) c.requires.place.0) c.in-Some.is)
    c.in-Some-compared_days_at.ensures))
    c.changed_between.ensures.days

pub returns-in-Some-compared_days_at-clause-steps : goal.returns-in-Some-compared_days_at-clause-steps
returns-in-Some-compared_days_at-clause-steps g c =
    few_steps (in_force c.args.inputs.now) c.args.edit.now c.in-Some-compared_days_at.span.0 c.in-Some-compared_days_at.span.1 c.args.steps.now c.changed_between.new.steps
    c.in-Some-compared_days_at.ensures c.changed_between.ensures.steps

pub returns-in-None-clause-days : goal.returns-in-None-clause-days
returns-in-None-clause-days g c =
    c.new-in-None.ensures
    ∙ no_days c.args.inputs.now.limits c.args.inputs.now.kept c.args.edit.now c.stations_keep_to_their_ranges.ensures c.requires.accepted c.in-None.ensures

pub returns-in-None-clause-rising : goal.returns-in-None-clause-rising
returns-in-None-clause-rising g c =
    changed_rise (in_force c.args.inputs.now) c.args.edit.now _ (c.new-in-None.ensures
    ∙ no_days c.args.inputs.now.limits c.args.inputs.now.kept c.args.edit.now c.stations_keep_to_their_ranges.ensures c.requires.accepted c.in-None.ensures)

pub returns-in_default-clause-days : goal.returns-in_default-clause-days
returns-in_default-clause-days g c =
    c.new.ensures
    ∙ unkept_days c.args.inputs.now.limits (in_force c.args.inputs.now) c.args.edit.now c.requires.accepted
    (lent_none c.station_at.result (station_of (in_force c.args.inputs.now) c.args.edit.now.site) (c.station_at.ensures ∙ ap (station_of (in_force c.args.inputs.now)) c.requires.place.0) c.in_default.not-Some)

pub returns-in_default-clause-rising : goal.returns-in_default-clause-rising
returns-in_default-clause-rising g c =
    changed_rise (in_force c.args.inputs.now) c.args.edit.now _ (c.new.ensures
    ∙ unkept_days c.args.inputs.now.limits (in_force c.args.inputs.now) c.args.edit.now c.requires.accepted
    (lent_none c.station_at.result (station_of (in_force c.args.inputs.now) c.args.edit.now.site) (c.station_at.ensures ∙ ap (station_of (in_force c.args.inputs.now)) c.requires.place.0) c.in_default.not-Some))
