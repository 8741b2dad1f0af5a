use Rattle.std.specs.Prelude.{◌≡◌, ◌-◌, ◌+◌, suc, None, Some}
use Rattle.std.proofs.Common.{arith, subst}
use Rattle.recompute.specs.Jobs.{DayJob}
use Rattle.desk.specs.Serving.{IsPublished}
use Rattle.shared_office.specs.Passing.{fixed_in}
use Rattle.desk.proofs.DayByDayLemmas.{is_look, turns_break, turns_done, turns_end, turns_more, turns_start}
use Rattle.desk.proofs.behind.turn_often.Goals as goal

pub loop-init : goal.loop-init
loop-init g c = record {
  pass = c.requires.pass;
  turning = turns_start (fixed_in c.args.lock.now) c.args.count (c.args.count - 0) c.args.given (omega arith);
  few = omega arith;
}

pub loop-preserved : goal.loop-preserved
loop-preserved g c =
    let fixed = fixed_in c.args.lock.now in let h = c.look-next.ensures.held in
    let left : c.args.count - c.loop.counter ≡ suc (c.args.count - (c.loop.counter + 1)) = omega (arith, c.loop-test.true) in
    let k = is_look fixed None h.0 c.look-next.result.1 c.in-Ok.looked (Some c.in-Some.job) h.2 c.in-Ok.is c.in-Some.is in
    record {
      pass = c.publish_more-next.ensures.pass;
      turning =
          turns_more fixed c.args.count (c.args.count - c.loop.counter) (c.args.count - (c.loop.counter + 1)) c.args.given c.loop.pass c.loop.turned left
          c.loop.invariant.turning c.look-next.result.0 h.0 h.1 c.in-Some.job c.publish_more-next.result.0 c.publish_more-next.result.1
          (subst (λ (job : DayJob). IsPublished fixed c.look-next.result.0 job c.loop.turned.published c.publish_more-next.result.0 c.publish_more-next.result.1)
          c.in-Some.job-is c.publish_more-next.ensures.held) k.0;
      few = c.publish_more-next.ensures.few;
    }

pub returns-in-None-clause-turned : goal.returns-in-None-clause-turned
returns-in-None-clause-turned g c =
    let fixed = fixed_in c.args.lock.now in let h = c.look-next.ensures.held in
    let left : c.args.count - c.loop.counter ≡ suc (c.args.count - (c.loop.counter + 1)) = omega (arith, c.loop-test.true) in
    let k = is_look fixed None h.0 c.look-next.result.1 c.in-Ok.looked None h.2 c.in-Ok.is c.in-None.is in
    turns_end fixed c.args.count (c.args.count - c.loop.counter) (c.args.count - (c.loop.counter + 1)) c.args.given c.loop.pass c.loop.turned left
    c.loop.invariant.turning c.look-next.result.0 h.0 h.1 c.in-Ok.looked.pending k.0 k.1

pub returns-in-Err-clause-turned : goal.returns-in-Err-clause-turned
returns-in-Err-clause-turned g c =
    let fixed = fixed_in c.args.lock.now in let h = c.look-next.ensures.held in
    let left : c.args.count - c.loop.counter ≡ suc (c.args.count - (c.loop.counter + 1)) = omega (arith, c.loop-test.true) in
    turns_break fixed c.args.count (c.args.count - c.loop.counter) (c.args.count - (c.loop.counter + 1)) c.args.given c.loop.pass c.loop.turned left
    c.loop.invariant.turning c.look-next.result.0 h.0 h.1 c.in-Err.field-0

pub returns-clause-turned : goal.returns-clause-turned
returns-clause-turned g c =
    turns_done (fixed_in c.args.lock.now) c.args.count (c.args.count - c.loop.counter) c.args.given c.loop.pass c.loop.turned (omega (arith, c.loop-test.false))
    c.requires.some c.loop.invariant.turning
