use Rattle.std.proofs.Common.{length-drop, arith}
use Rattle.edit_bodies.proofs.CompactLemmas.{block_more}
use Rattle.edit_bodies.proofs.compact_form.plain_blocks.Goals as goal

pub loop-block-smaller : goal.loop-block-smaller
loop-block-smaller g c =
    omega (arith, c.requires.some, c.loop-block.invariant.0, length-drop c.loop-block.count c.args.bytes.now, c.in-Some.ensures.cases.enough)

pub loop-block-preserved : goal.loop-block-preserved
loop-block-preserved g c =
    block_more c.args.bytes.now _ c.loop-block.count g.row.N c.loop-block.invariant.0 c.in-Some.ensures.cases.enough c.in-Some.ensures.cases.same c.loop-block.invariant.1 c.if-not-are_plain.ensures
