use Rattle.std.specs.Prelude.{◌≡◌, ◌+◌, ◌<◌, ◌≤◌, List, length}
use Rattle.std.proofs.Common.{rules, ap, ◌∙◌, refl, sym, subst, arith}
use Rattle.devices.specs.Doors.{Ends}
use Rattle.serving.specs.Taking.{AreServed}
use Rattle.serving.proofs.TakingLemmas.{all_left, end_all, go_more, head_of, none_of, tasks_of}
use Rattle.shared_office.specs.Passing.{fixed_in}
use Rattle.turnstile.proofs.ListLemmas.{prefix_here, prefix_on}
use Rattle.turnstile.specs.Passes.{seen}
use Rattle.serving.proofs.taking.take_in_all.Goals as goal

pub loop-task-init : goal.loop-task-init
loop-task-init g c =
    let e : c.into_iter-task-iterator.result.rest.items ≡ c.args.tasks.items = search rules in
    let told = g.L.Doors.told c.args.doors.now in (
      tt,
      tt,
      c.requires.pass,
      refl,
      prefix_here (seen c.args.given),
      refl,
      (refl, refl),
      (
        told.given,
        (omega arith),
        ((let a = c.requires.count in let b = c.requires.few in omega (arith, a, b)), omega arith),
        (λ n le. c.requires.out n (omega (arith, le))),
        (c.requires.tasks.0, tasks_of _ told.given _ c.args.tasks.items e c.requires.tasks.1),
        (λ start h. all_left _ (fixed_in c.args.lock.now) start told.given c.args.given _ c.args.tasks.items told e h),
      ),
    )

pub take_in-pass-requires-clause-task : goal.take_in-pass-requires-clause-task
take_in-pass-requires-clause-task g c κs within =
    let k = c.loop-task.invariant.7 in
    let h = head_of _ k.0 _ c.in-Some.task c.next.new.self.rest.items c.in-Some.ensures.steps.0 k.4.1 in
    (k.4.0, h.0, h.3)

pub take_in-pass-requires-clause-given : goal.take_in-pass-requires-clause-given
take_in-pass-requires-clause-given g c κs within =
    let k = c.loop-task.invariant.7 in
    let h = head_of _ k.0 _ c.in-Some.task c.next.new.self.rest.items c.in-Some.ensures.steps.0 k.4.1 in
    let same = ap length c.loop-task.invariant.5 in
    let a = k.1 in let b = ap length h.2 in omega (arith, a, b, same)

pub take_in-pass-requires-clause-out : goal.take_in-pass-requires-clause-out
take_in-pass-requires-clause-out g c κs within = c.loop-task.invariant.7.3 c.loop-task.number (omega arith)

pub loop-task-preserved : goal.loop-task-preserved
loop-task-preserved g c =
    let inv = c.loop-task.invariant in
    let k = inv.7 in
    let given = (g.L.Doors.told c.args.doors.now).given in
    let t = c.in-Some.task in let ts = c.next.new.self.rest.items in
    let u = head_of _ k.0 _ t ts c.in-Some.ensures.steps.0 k.4.1 in
    let told = c.take_in-pass.ensures.taken in
    let x = told k.4.0 u.0 u.3 in (
      tt,
      tt,
      c.take_in-pass.ensures.pass,
      (let a = x.share_is in let b = inv.3 in omega (arith, a, b)),
      prefix_on (seen c.args.given) (seen c.loop-task.pass) (seen c.take_in-pass.result) inv.4 x.begins,
      x.back.given ∙ inv.5,
      (c.take_in-pass.ensures.listens ∙ inv.6.0, c.take_in-pass.ensures.counted ∙ inv.6.1),
      (
        u.1,
        (let a = k.1 in let b = ap length u.2 in omega (arith, a, b)),
        (k.2.0, omega arith),
        (λ n le. x.back.others n (λ e. absurd (omega (arith, le, e))) ∙ k.3 n (omega (arith, le))),
        (k.4.0, u.4),
        (λ start h.
            go_more _ (fixed_in c.args.lock.now) start given c.args.given c.loop-task.number u.0 k.0 u.1 t _ ts c.loop-task.pass c.take_in-pass.result
            (g.L.Doors.told c.loop-task.doors) (g.L.Doors.told c.take_in-pass.new.doors) u.2 c.in-Some.ensures.steps.0 (told start u.0) (k.5 start h)),
      ),
    )

pub returns-clause-share : goal.returns-clause-share
returns-clause-share g c =
    let k = c.loop-task.invariant.7 in
    let e : length c.loop-task.task-iterator.rest.items ≡ 0 = search rules in
    let none = ap length (none_of _ k.0 _ e k.4.1) in
    let a = c.loop-task.invariant.3 in let b = k.1 in let d = c.requires.count in omega (arith, none, a, b, d)

pub returns-clause-taken : goal.returns-clause-taken
returns-clause-taken g c = λ start h.
    let k = c.loop-task.invariant.7 in
    let e : length c.loop-task.task-iterator.rest.items ≡ 0 = search rules in
    let r = end_all _ (fixed_in c.args.lock.now) start (g.L.Doors.told c.args.doors.now).given c.args.given c.loop-task.number k.0 _ c.loop-task.pass (g.L.Doors.told c.loop-task.doors) e (k.5 start h) in (
      r.0,
      r.1,
      subst (λ (l : List Ends). AreServed (fixed_in c.args.lock.now) (length start) (seen c.loop-task.pass) (g.L.Doors.told c.loop-task.doors).back 1 l r.0) (sym c.loop-task.invariant.5) r.2,
    )
