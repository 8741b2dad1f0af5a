use Rattle.std.specs.Prelude.{◌≡◌, ◌+◌, ◌∷◌, length}
use Rattle.std.proofs.Common.{ap, ◌∙◌, sym, subst, arith, rules}
use Rattle.std.proofs.lemmas.List.Elements.{All-head, All-push, All-rest, All-same}
use Rattle.devices.specs.declared.spawners.Task.{Task}
use Rattle.serving.specs.Crews.{IsDue, IsEmployed, IsOutcome}
use Rattle.serving.specs.declared.crews.Hand.{Hand}
use Rattle.shared_office.specs.Passing.{Lock}
use Rattle.turnstile.specs.Passes.{seen, share, tally}
use Rattle.serving.proofs.CrewLemmas.{begins_as, crew_of}
use Rattle.serving.proofs.crews.start_workers.Goals as goal

pub loop-hand-preserved-in-Ok : goal.loop-hand-preserved-in-Ok
loop-hand-preserved-in-Ok g c =
    let inv = c.loop-hand.invariant in let lock = c.args.lock.now in let s = c.split-mine.ensures in let steps = c.in-Some.ensures.steps.0 in
    let Own = λ (h : Hand g.row.D.Denot g.D.Disk). h.lock.value ≡ lock in
    let rest = c.next.new.self.rest.items in let before = c.loop-hand.hand-iterator.rest.items in
    let own = All-head Own c.in-Some.hand rest (All-same Own (c.in-Some.hand ∷ rest) before (sym steps) inv.6) in
    let r = c.in-Ok.ensures.running in let n = ap length steps in (
      tt,
      tt,
      s.passes.0,
      (let a = inv.3 in let b = s.share.0 in let d = c.loop-hand.invariant.2.0.3 in omega (arith, a, b, d, n)),
      (let a = inv.4 in let b = c.push_reserved.ensures.len in omega (arith, a, b, n)),
      (let a = inv.5.0 in let b = c.push_reserved.ensures.capacity in omega (arith, a, b), inv.5.1),
      All-rest Own c.in-Some.hand rest before steps inv.6,
      All-same (IsEmployed lock (seen c.args.given)) c.push_reserved.new.self.items _ c.push_reserved.ensures.items
          (All-push (IsEmployed lock (seen c.args.given)) c.loop-hand.tasks.items c.in-Ok.task inv.7 (
            r.0 ∙ own,
            record {
              begins = begins_as c.args.given c.in-Ok.task.running.promise.given.value (ap seen r.1 ∙ s.seen.1 ∙ inv.9.0);
              share_is = ap share r.1 ∙ s.share.1;
              tally_is = ap tally r.1 ∙ s.tally.1;
            },
          )),
      inv.8,
      (s.seen.0 ∙ inv.9.0, s.tally.0 ∙ inv.9.1),
    )

pub loop-hand-preserved : goal.loop-hand-preserved
loop-hand-preserved g c =
    let inv = c.loop-hand.invariant in let lock = c.args.lock.now in let s = c.split-mine.ensures in let steps = c.in-Some.ensures.steps.0 in
    let Own = λ (h : Hand g.row.D.Denot g.D.Disk). h.lock.value ≡ lock in
    let rest = c.next.new.self.rest.items in let before = c.loop-hand.hand-iterator.rest.items in
    let own = All-head Own c.in-Some.hand rest (All-same Own (c.in-Some.hand ∷ rest) before (sym steps) inv.6) in
    let n = ap length steps in (
      tt,
      tt,
      s.passes.0,
      (let a = inv.3 in let b = s.share.0 in let d = c.loop-hand.invariant.2.0.3 in omega (arith, a, b, d, n)),
      (let a = inv.4 in let b = c.push_reserved-in-Err.ensures.len in omega (arith, a, b, n)),
      (inv.5.0, let a = inv.5.1 in let b = c.push_reserved-in-Err.ensures.capacity in omega (arith, a, b)),
      All-rest Own c.in-Some.hand rest before steps inv.6,
      inv.7,
      All-same (IsDue lock (seen c.args.given)) c.push_reserved-in-Err.new.self.items _ c.push_reserved-in-Err.ensures.items
          (All-push (IsDue lock (seen c.args.given)) c.loop-hand.kept.items c.in-Err.outcome inv.8 (
            c.split-mine.result.1,
            record { begins = begins_as c.args.given c.split-mine.result.1 (s.seen.1 ∙ inv.9.0); share_is = s.share.1; tally_is = s.tally.1 },
            subst (λ (l : Lock g.row.D.Denot g.D.Disk). IsOutcome l c.split-mine.result.1 c.in-Err.outcome) own c.in-Err.ensures.done,
          )),
      (s.seen.0 ∙ inv.9.0, s.tally.0 ∙ inv.9.1),
    )

pub returns-clause-begun : goal.returns-clause-begun
returns-clause-begun g c = ap seen c.of-begun.ensures

pub returns-clause-crew : goal.returns-clause-crew
returns-clause-crew g c =
    let inv = c.loop-hand.invariant in
    crew_of c.args.lock.now c.args.workers c.args.given _ c.of-begun.ensures (let a = inv.4 in let e : length c.loop-hand.hand-iterator.rest.items ≡ 0 = search rules in omega (arith, a, e))
    inv.7 inv.8
