use Rattle.std.specs.Prelude.{◌≡◌, ◌+◌, ◌∷◌, List, length, vec_len}
use Rattle.std.proofs.Common.{rules, ap, sym, subst, arith}
use Rattle.std.proofs.lemmas.List.Elements.{All-head, All-rest, All-same}
use Rattle.shared_office.specs.Passing.{Lock}
use Rattle.serving.specs.Crews.{AreJoined, IsEmployed, IsOutcome}
use Rattle.serving.proofs.CrewLemmas.{joined_more, joined_none}
use Rattle.turnstile.specs.Passes.{seen}
use Rattle.serving.proofs.crews.take_in.Goals as goal

pub loop-task-init : goal.loop-task-init
loop-task-init g c =
    let e : c.into_iter-task-iterator.result.rest.items ≡ c.args.tasks.items = search rules in (
      tt,
      tt,
      c.requires.pass,
      All-same (IsEmployed c.args.lock.now (seen c.args.begun.now.value)) _ c.args.tasks.items e c.requires.tasks,
      (0, (let a = ap length e in omega (arith, a)), joined_none c.args.lock.now (seen c.args.begun.now.value) c.args.given),
    )

pub end_and_join-pass-requires-clause-outcome : goal.end_and_join-pass-requires-clause-outcome
end_and_join-pass-requires-clause-outcome g c =
    let h = All-head (IsEmployed c.args.lock.now (seen c.args.begun.now.value)) c.in-Some.task c.next.new.self.rest.items
    (All-same (IsEmployed c.args.lock.now (seen c.args.begun.now.value)) (c.in-Some.task ∷ c.next.new.self.rest.items) c.loop-task.task-iterator.rest.items (sym c.in-Some.ensures.steps.0)
    c.loop-task.invariant.3) in
    (c.in-Some.task.running.promise.given.value, h.1, subst (λ (l : Lock g.row.D.Denot g.D.Disk). IsOutcome l c.in-Some.task.running.promise.given.value c.wait.result) h.0 c.wait.ensures)

pub loop-task-preserved : goal.loop-task-preserved
loop-task-preserved g c =
    let inv = c.loop-task.invariant in let k = inv.4 in (
      tt,
      tt,
      c.end_and_join-pass.ensures.pass,
      All-rest (IsEmployed c.args.lock.now (seen c.args.begun.now.value)) c.in-Some.task c.next.new.self.rest.items c.loop-task.task-iterator.rest.items c.in-Some.ensures.steps.0 inv.3,
      (
        k.0 + 1,
        (let a = k.1 in let b = ap length c.in-Some.ensures.steps.0 in omega (arith, a, b)),
        joined_more c.args.lock.now (seen c.args.begun.now.value) c.args.given c.loop-task.pass c.end_and_join-pass.result k.0 k.2 c.end_and_join-pass.ensures.joined,
      ),
    )

pub returns-clause-joined : goal.returns-clause-joined
returns-clause-joined g c =
    let k = c.loop-task.invariant.4 in
    let e : length c.loop-task.task-iterator.rest.items ≡ 0 = search rules in
    let same : k.0 ≡ vec_len c.args.tasks = (let a = k.1 in omega (arith, a, e)) in
    subst (λ n. AreJoined c.args.lock.now (seen c.args.begun.now.value) c.args.given c.loop-task.pass n) same k.2
