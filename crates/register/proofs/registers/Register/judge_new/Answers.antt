-- The stations in force are those of the history, so the search is as long.
use Rattle.std.specs.Prelude.{◌+◌, ◌≤◌, List, length}
use Rattle.std.proofs.Common.{ap, sym, subst, ◌∙◌}
use Rattle.history.specs.Accepted.{stations_at}
use Rattle.station_inputs.specs.Stations.{StationState}
use Rattle.office_inputs.specs.Touched.{interval}
use Rattle.register.specs.Registered.{Registered}
use Rattle.register.proofs.JudgedLemmas.{is_refused_before, needed, not_by_stations, not_within}
use Rattle.register.proofs.registers.Register.judge_new.Goals as goal

pub reach_at-requires-clause-accepted : goal.reach_at-requires-clause-accepted
reach_at-requires-clause-accepted g c =
    not_within _ c.args.self.now c.self.view_is c.self.invariant.stations c.args.edit
    (not_by_stations c.args.self.now.history c.args.edit (sym c.refusal_before_days.ensures ∙ c.in_default.is))

pub returns-in-Some-clause-verdict : goal.returns-in-Some-clause-verdict
returns-in-Some-clause-verdict g c =
    sym (is_refused_before c.args.self.now.history c.args.edit c.requires c.in-Some.refusal (sym c.refusal_before_days.ensures ∙ c.in-Some.is))

pub returns-clause-steps : goal.returns-clause-steps
returns-clause-steps g c =
    let same = c.self.invariant.stations ∙ ap (λ (r : Registered). stations_at r.history.events) c.self.view_is in
    subst (λ (stations : List StationState). c.reach_at.new.steps ≤ c.args.steps.now + length (interval stations c.args.edit) + 9) same c.reach_at.ensures.steps

pub returns-in_err-days-clause-steps : goal.returns-in_err-days-clause-steps
returns-in_err-days-clause-steps g c =
    let same = c.self.invariant.stations ∙ ap (λ (r : Registered). stations_at r.history.events) c.self.view_is in
    subst (λ (stations : List StationState). c.reach_at.new.steps ≤ c.args.steps.now + length (interval stations c.args.edit) + 9) same c.reach_at.ensures.steps

pub returns-clause-no_step : goal.returns-clause-no_step
returns-clause-no_step g c unneeded =
    absurd (needed c.args.self.now.history c.args.edit c.requires (sym c.refusal_before_days.ensures ∙ c.in_default.is) unneeded)

pub returns-in_err-days-clause-no_step : goal.returns-in_err-days-clause-no_step
returns-in_err-days-clause-no_step g c unneeded =
    absurd (needed c.args.self.now.history c.args.edit c.requires (sym c.refusal_before_days.ensures ∙ c.in_default.is) unneeded)
