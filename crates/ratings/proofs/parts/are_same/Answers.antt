-- Part by part.
use Rattle.std.proofs.Common.{arith}
use Rattle.ratings.proofs.PartEqualityLemmas.{same_step, same_stopped, same_ended}
use Rattle.ratings.proofs.parts.are_same.Goals as goal

pub returns-in_default : goal.returns-in_default
returns-in_default c =
    same_stopped c.args.parts.now c.args.others.now c.loop-part.rest.now c.loop-part.part-index c.part-item.result
    c.loop-part-test.true c.part-item.is c.loop-part.invariant c.in_default.ensures.other

pub loop-part-preserved : goal.loop-part-preserved
loop-part-preserved c =
    same_step c.args.parts.now c.args.others.now c.loop-part.rest.now c.in-Some.left.now c.loop-part.part-index c.part-item.result
    c.loop-part-test.true c.part-item.is c.loop-part.invariant c.in-Some.ensures.rest

pub returns : goal.returns
returns c =
    same_ended c.args.parts.now c.args.others.now c.loop-part.rest.now c.loop-part.part-index c.is_empty.result
    (omega (arith, c.loop-part-test.false)) c.loop-part.invariant c.is_empty.ensures
