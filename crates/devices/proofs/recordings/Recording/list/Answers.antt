use Rattle.std.proofs.Common.{◌≡◌, [], ◌∷◌, ◌++◌, sym, ◌∙◌, subst, rules}
use Rattle.devices.specs.Disks.{NothingNew}
use Rattle.devices.specs.MemoryDisks.{Recorded, content_of, images_of, with_step, with_unlisted, GoesOn}
use Rattle.devices.specs.declared.recordings.Step.{Step}
use Rattle.devices.proofs.Replays.{step_same, step_images, step_time, time_stays}
use Rattle.devices.proofs.StopLemmas.{within-push, quiet_within}
use Rattle.devices.proofs.recordings.Recording.list.Goals as goal

pub invariant_of-self : goal.invariant_of-self
invariant_of-self c =
    let step : Step = record { failed = c.args.failed; change = c.args.change } in
    let inside : Recorded = record { first = c.self.inside.first.items; steps = c.self.inside.steps.items; unlisted = 0 } in
    let steps : c.push.new.self.items ≡ c.self.inside.steps.items ++ step ∷ [] = search rules in
    rw steps (record {
      content = c.self.invariant.content ∙ sym (step_same inside step c.requires);
      within = within-push inside.first inside.steps step c.self.invariant.within (quiet_within (content_of inside) step.change c.requires);
    })

pub returns-then-is_ok-clause-same : goal.returns-then-is_ok-clause-same
returns-then-is_ok-clause-same c =
    let step : Step = record { failed = c.args.failed; change = c.args.change } in
    let old : Recorded = c.args.self.now in
    let is : record { first = c.self.inside.first.items; steps = c.push.new.self.items; unlisted = c.self.inside.unlisted } ≡ with_step step old = search rules in
    subst (λ (new : Recorded). content_of new ≡ content_of old) (sym is) (step_same old step c.requires)

pub returns-then-is_ok-clause-images : goal.returns-then-is_ok-clause-images
returns-then-is_ok-clause-images c =
    let step : Step = record { failed = c.args.failed; change = c.args.change } in
    let old : Recorded = c.args.self.now in
    let is : record { first = c.self.inside.first.items; steps = c.push.new.self.items; unlisted = c.self.inside.unlisted } ≡ with_step step old = search rules in
    subst (λ (new : Recorded). NothingNew (images_of old) (images_of new)) (sym is) (step_images old step c.requires)

pub returns-then-is_ok-clause-time : goal.returns-then-is_ok-clause-time
returns-then-is_ok-clause-time c =
    let step : Step = record { failed = c.args.failed; change = c.args.change } in
    let old : Recorded = c.args.self.now in
    let is : record { first = c.self.inside.first.items; steps = c.push.new.self.items; unlisted = c.self.inside.unlisted } ≡ with_step step old = search rules in
    subst (λ (new : Recorded). GoesOn old new) (sym is) (step_time old step)

pub returns-clause-time : goal.returns-clause-time
returns-clause-time c =
    let old : Recorded = c.args.self.now in
    let inside = c.else-self-eq0.self-inside in
    let is : record { first = inside.first.items; steps = inside.steps.items; unlisted = c.saturating_add-self-inside.result } ≡ with_unlisted old = search rules in
    subst (λ (new : Recorded). GoesOn old new) (sym is) (time_stays old)
