use Rattle.std.proofs.Common.{◌≡◌, ap, refl, subst, sym, ◌∙◌}
use Rattle.history.specs.Events.{History}
use Rattle.office.specs.Steps.{APublication}
use Rattle.register.specs.Asked.{outcome_at}
use Rattle.shared_office.specs.Entries.{fixed_part}
use Rattle.shared_office.specs.Finding.{published_by}
use Rattle.shared_office.specs.Passing.{fixed_of, listed}
use Rattle.shared_office.proofs.HoldingLemmas.{once_adding}
use Rattle.shared_office.proofs.TaskLemmas.{fixed_alone, history_lent, pending_behind, task_of, unchanged}
use Rattle.turnstile.specs.Passes.{value_of}
use Rattle.shared_office.proofs.holdings.publish.Goals as goal

pub returns-clause-held : goal.returns-clause-held
returns-clause-held g c =
    let e = c.enter-held.ensures in let l = c.leave.ensures in let w = c.value_mut.result.now in let u = c.publish-told.new.self in
    let added = published_by c.publish-told.result c.args.done.job in let list = c.publish-told.ensures.list in
    let task = task_of c.args.lock.now w u (APublication c.args.done.job c.publish-told.result) added (ap fixed_of c.value_mut.ensures.value ∙ fixed_alone (value_of c.enter-held.result) c.args.lock.now e.fixed) tt refl
    c.publish-told.ensures.step list.2 in (
      listed w,
      once_adding c.args.pass c.leave.result c.enter-held.result w u added c.value_mut.ensures.value list.2 e.begins e.entered e.share e.tally l.seen l.share l.tally,
      task.0,
      subst (λ (h : History). c.publish-told.result ≡ outcome_at h.events c.args.done.job)
          (sym (history_lent c.args.lock.now c.enter-held.result w c.value_mut.ensures.value e.fixed)) c.publish-told.ensures.step.1,
      task.1,
    )

pub returns-clause-pending : goal.returns-clause-pending
returns-clause-pending g c =
    pending_behind c.args.lock.now c.value_mut.result.now c.publish-told.new.self c.value.result.now _ _ c.pending-pending.result
    (ap fixed_of c.value_mut.ensures.value ∙ fixed_alone (value_of c.enter-held.result) c.args.lock.now c.enter-held.ensures.fixed) c.publish-told.ensures.list c.leave.ensures.seen c.value.ensures c.pending-pending.ensures

pub leave-requires-clause-fixed : goal.leave-requires-clause-fixed
leave-requires-clause-fixed g c =
    unchanged c.args.lock.now _ c.value_mut.result.now c.publish-told.new.self c.value_mut.ensures.value c.enter-held.ensures.fixed (ap fixed_part c.publish-told.ensures.list.0)
    c.publish-told.ensures.begun
