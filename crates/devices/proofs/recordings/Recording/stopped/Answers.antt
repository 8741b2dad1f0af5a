use Rattle.std.proofs.Common.{◌≡◌, ◌+◌, ℕ, List, [], ◌∷◌, length, min, take, drop, refl, sym, ◌∙◌, ap, subst, rules, arith}
use Rattle.std.proofs.lemmas.List.{drop_all, drop_more, take_min}
use Rattle.devices.specs.MemoryDisks.{MayLeave}
use Rattle.devices.specs.Stops.{AreWithin, left_after}
use Rattle.devices.specs.declared.recordings.Step.{Step}
use Rattle.devices.proofs.StopLemmas.{is_image, suits_first, suits_on, within-take}
use Rattle.devices.proofs.recordings.Recording.stopped.Goals as goal

pub loop-step-init : goal.loop-step-init
loop-step-init c =
    let first = c.args.self.now.first in
    let content : c.in_ok-content.content.items ≡ first = search rules in
    let image : c.in_ok-image.image.items ≡ first = search rules in
    let steps : c.deref-3.result.now ≡ c.args.self.now.steps = search rules in
    let within : AreWithin first c.args.self.now.steps = search rules in
    let all : AreWithin first (take c.min.result c.deref-3.result.now) = rw steps (within-take first c.args.self.now.steps c.min.result within) in
    rw (content, image) (record { left = refl; within = all; suits = suits_first c.args.unsynced first })

pub leave-requires-clause-within : goal.leave-requires-clause-within
leave-requires-clause-within c =
    let items = take c.min.result c.deref-3.result.now in
    let i = c.loop-step.step-index in
    let here : drop i items ≡ c.step-item.result ∷ drop (i + 1) items = drop_more items i c.step-item.result (omega arith) ∙ ap (λ (s : Step). s ∷ drop (i + 1) items) (sym c.step-item.is) in
    let all : AreWithin c.loop-step.content.items (c.step-item.result ∷ drop (i + 1) items) = subst (AreWithin c.loop-step.content.items) here c.loop-step.invariant.within in
    search (rules, all)

pub loop-step-preserved : goal.loop-step-preserved
loop-step-preserved c =
    let items = take c.min.result c.deref-3.result.now in
    let i = c.loop-step.step-index in
    let step = c.step-item.result in
    let image = c.loop-step.image.items in
    let content = c.loop-step.content.items in
    let how = c.args.unsynced in
    let first = c.args.self.now.first in
    let here : drop i items ≡ step ∷ drop (i + 1) items = drop_more items i step (omega arith) ∙ ap (λ (s : Step). s ∷ drop (i + 1) items) (sym c.step-item.is) in
    let all : AreWithin content (step ∷ drop (i + 1) items) = subst (AreWithin content) here c.loop-step.invariant.within in
    let left : left_after how image content (step ∷ drop (i + 1) items) ≡ left_after how first first items =
    subst (λ (steps : List Step). left_after how image content steps ≡ left_after how first first items) here c.loop-step.invariant.left in
    let now : c.deref-in-loop-step.result.now ≡ content = search rules in
    rw (c.in_ok-leave.ensures, now, c.in_ok-follow.ensures) (record {
      left = left;
      within = all.1;
      suits = suits_on how image content step.change all.0 c.loop-step.invariant.suits;
    })

pub returns-clause-is_image : goal.returns-clause-is_image
returns-clause-is_image c =
    let items = take c.min.result c.deref-3.result.now in
    let image = c.loop-step.image.items in
    let how = c.args.unsynced in
    let first = c.args.self.now.first in
    let steps : c.deref-3.result.now ≡ c.args.self.now.steps = search rules in
    let within : AreWithin first c.args.self.now.steps = search rules in
    let end : drop c.loop-step.step-index items ≡ [] = drop_all c.loop-step.step-index items (omega arith) in
    let left : image ≡ left_after how first first items =
    subst (λ (rest : List Step). left_after how image c.loop-step.content.items rest ≡ left_after how first first items) end c.loop-step.invariant.left in
    let count : c.min.result ≡ min c.args.calls (length c.args.self.now.steps) = search rules in
    let taken : items ≡ take c.args.calls c.args.self.now.steps = rw (steps, count) (take_min c.args.calls c.args.self.now.steps) in
    rw (left, taken) (is_image how first (take c.args.calls c.args.self.now.steps) (within-take first c.args.self.now.steps c.args.calls within))
