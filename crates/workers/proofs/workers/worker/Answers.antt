use Rattle.std.specs.Prelude.{[], ◌∷◌, ◌++◌, Ok}
use Rattle.std.proofs.Common.{ap, arith, ◌∙◌}
use Rattle.shared_office.specs.Passing.{adding}
use Rattle.shared_office.specs.declared.shared.Found.{Found}
use Rattle.workers.proofs.WorkLemmas.{drained, looked, seen_more, short, work_none, work_on}
use Rattle.workers.proofs.workers.worker.Goals as goal

pub loop-init : goal.loop-init
loop-init g c = (tt, tt, c.requires, omega (arith), [], work_none c.args.lock.now c.args.given)

pub loop-preserved-in-Ok-Job : goal.loop-preserved-in-Ok-Job
loop-preserved-in-Ok-Job g c =
    let lock = c.args.lock.now in let h = c.find-next.ensures.held in let w = c.loop.invariant in let more = c.publish_more-next.ensures.held in (
      tt,
      tt,
      c.publish_more-next.ensures.pass,
      c.publish_more-next.ensures.few,
      (w.4 ++ adding h.0 [] ∷ []) ++ more.holding ∷ [],
      work_on lock c.args.given c.find-next.result.0 c.publish_more-next.result.0 (w.4 ++ adding h.0 [] ∷ []) c.loop.published c.publish_more-next.result.1
          (looked lock c.args.given c.loop.pass c.find-next.result.0 w.4 c.loop.published h.0 w.5 h.1 h.2) more,
    )

pub loop-preserved : goal.loop-preserved
loop-preserved g c =
    let lock = c.args.lock.now in let h = c.find-next.ensures.held in let w = c.loop.invariant in (
      tt,
      tt,
      c.find-next.ensures.pass,
      (let a = seen_more lock c.loop.pass c.find-next.result.0 h.0 [] h.1 in let b = w.3 in omega (arith, a, b)),
      w.4 ++ adding h.0 [] ∷ [],
      looked lock c.args.given c.loop.pass c.find-next.result.0 w.4 c.loop.published h.0 w.5 h.1 h.2,
    )

pub returns-in-Ok-Drained-clause-worked : goal.returns-in-Ok-Drained-clause-worked
returns-in-Ok-Drained-clause-worked g c =
    let h = c.find-next.ensures.held in let w = c.loop.invariant in
    drained c.args.lock.now c.args.given c.loop.pass c.find-next.result.0 w.4 c.loop.published h.0 w.5 h.1 h.2 (c.find-next.ensures.drained (c.in-Ok-Drained.is ∙ ap (λ (found : Found). Ok found) c.in-Ok-Drained.field-0-is))

pub returns-in-Err-clause-worked : goal.returns-in-Err-clause-worked
returns-in-Err-clause-worked g c =
    let h = c.find-next.ensures.held in let w = c.loop.invariant in
    short c.args.lock.now c.args.given c.loop.pass c.find-next.result.0 w.4 c.loop.published h.0 c.find-next.result.1 _ w.5 h.1 h.2 h.3.0 c.in-Err.is
