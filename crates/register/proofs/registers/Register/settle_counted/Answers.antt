-- Each round publishes the next of the days that were pending, until none is left.
use Rattle.std.proofs.Common.{◌≡◌, ◌<◌, arith, length, subst}
use Rattle.history.specs.Awaited.{pending_days}
use Rattle.register.specs.Registered.{IsSettledTo}
use Rattle.register.proofs.SettleLemmas.{on_the_way, one_more, all_settled, none_left, stopped}
use Rattle.register.proofs.registers.Register.settle_counted.Goals as goal

pub loop-init : goal.loop-init
loop-init g c = record { way = on_the_way c.args.self.now; counted = c.pending-count.ensures }

pub loop-preserved : goal.loop-preserved
loop-preserved g c =
    let counted = c.loop.invariant.counted in
    let within : c.loop.counter < length (pending_days c.args.self.now.history.events) = omega arith in
    record {
      way = one_more c.args.self.now c.loop.self c.publish_next.new.self c.loop.counter c.loop.invariant.way within
          c.in_ok-publish_next.ensures.history c.in_ok-publish_next.ensures.claims c.in_ok-publish_next.ensures.pending;
      counted = counted;
    }

pub returns-in_err-publish_next-clause-partly : goal.returns-in_err-publish_next-clause-partly
returns-in_err-publish_next-clause-partly g c =
    let counted = c.loop.invariant.counted in
    let within : c.loop.counter < length (pending_days c.args.self.now.history.events) = omega arith in
    stopped c.from_residual.result c.args.self.now c.loop.self c.publish_next.new.self c.loop.counter c.loop.invariant.way.settled within
    c.in_err-publish_next.ensures.err

pub returns-clause-history : goal.returns-clause-history
returns-clause-history g c =
    let counted = c.loop.invariant.counted in
    all_settled c.args.self.now c.loop.self c.loop.counter c.loop.invariant.way.settled (omega arith)

pub returns-clause-none : goal.returns-clause-none
returns-clause-none g c =
    let counted = c.loop.invariant.counted in
    none_left c.args.self.now c.loop.self c.loop.counter c.loop.invariant.way (omega arith)

pub returns-clause-settled : goal.returns-clause-settled
returns-clause-settled g c =
    let all : c.loop.counter ≡ c.pending-count.result = omega arith in
    subst (IsSettledTo c.args.self.now c.loop.self) all c.loop.invariant.way.settled
