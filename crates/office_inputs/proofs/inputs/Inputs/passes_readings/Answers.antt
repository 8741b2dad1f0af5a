-- By those that are new, or by all of them where they are few.
use Rattle.std.proofs.Common.{ℕ, ◌-◌, ap, ◌∙◌}
use Rattle.office_inputs.specs.Kept.{InForce, in_force}
use Rattle.office_inputs.specs.Refusals.{reading_count}
use Rattle.office_inputs.proofs.ApplyLemmas.{states_rise}
use Rattle.office_inputs.proofs.RefusingLemmas.{few_in_all, new_in_all}
use Rattle.office_inputs.proofs.inputs.Inputs.passes_readings.Goals as goal

pub returns-then-readings-free : goal.returns-then-readings-free
returns-then-readings-free c =
    new_in_all c.args.self.now.limits.readings c.saturating_sub-free.result c.count_new.result (in_force c.args.self.now) c.args.station.now.station c.args.readings.now
    (states_rise c.args.self.now.kept c.stations_keep_to_their_ranges.ensures.rising) c.requires.found
    (c.saturating_sub-free.ensures ∙ ap (λ (n : ℕ). c.self.inside.limits.readings - n) c.self.invariant.1
    ∙ ap (λ (i : InForce). i.limits.readings - reading_count (in_force i)) c.self.view_is)
    c.count_new.ensures

pub returns-else-readings-free : goal.returns-else-readings-free
returns-else-readings-free c =
    few_in_all c.args.self.now.limits.readings c.saturating_sub-free.result (in_force c.args.self.now) c.args.station.now.station c.args.readings.now
    (states_rise c.args.self.now.kept c.stations_keep_to_their_ranges.ensures.rising) c.requires.found c.site-site.ensures.kept.readings_are.rising
    (c.saturating_sub-free.ensures ∙ ap (λ (n : ℕ). c.self.inside.limits.readings - n) c.self.invariant.1
    ∙ ap (λ (i : InForce). i.limits.readings - reading_count (in_force i)) c.self.view_is)
    c.if-readings-free.false
