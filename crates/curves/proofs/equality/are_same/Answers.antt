-- Entry by entry.
use Rattle.std.proofs.Common.{arith}
use Rattle.curves.proofs.EqualityLemmas.{same_step, same_stopped, same_ended}
use Rattle.curves.proofs.equality.are_same.Goals as goal

pub returns-in_default : goal.returns-in_default
returns-in_default c =
    same_stopped c.args.entries.now c.args.others.now c.loop-entry.rest.now c.loop-entry.entry-index c.entry-item.result
    c.loop-entry-test.true c.entry-item.is c.loop-entry.invariant c.in_default.ensures.other

pub loop-entry-preserved : goal.loop-entry-preserved
loop-entry-preserved c =
    same_step c.args.entries.now c.args.others.now c.loop-entry.rest.now c.in-Some.left.now c.loop-entry.entry-index c.entry-item.result
    c.loop-entry-test.true c.entry-item.is c.loop-entry.invariant c.in-Some.ensures.rest

pub returns : goal.returns
returns c =
    same_ended c.args.entries.now c.args.others.now c.loop-entry.rest.now c.loop-entry.entry-index c.is_empty.result
    (omega (arith, c.loop-entry-test.false)) c.loop-entry.invariant c.is_empty.ensures
