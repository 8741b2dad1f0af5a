use Rattle.std.proofs.Common.{◌∙◌, arith}
use Rattle.edit_bodies.proofs.EachLemmas.{all_read, item_read, none_read}
use Rattle.edit_bodies.proofs.reading_rows.rows_in.Goals as goal
use Rattle.edit_bodies.specs.Grammars.{reading_of}

pub loop-item-preserved : goal.loop-item-preserved
loop-item-preserved c =
    let read = item_read reading_of c.loop-item.readings.items c.args.items.now c.loop-item.item-index c.item-item.result c.in-Some.reading c.loop-item-test.true c.item-item.is c.in-Some.ensures in
    rw c.in_ok-push.ensures.items (read ∙ c.loop-item.invariant)

pub returns-in_default : goal.returns-in_default
returns-in_default c =
    none_read reading_of c.loop-item.readings.items c.args.items.now c.loop-item.item-index c.item-item.result c.loop-item-test.true c.item-item.is c.in_default.ensures ∙ c.loop-item.invariant

pub returns : goal.returns
returns c =
    all_read reading_of c.loop-item.readings.items c.args.items.now c.loop-item.item-index (omega arith) ∙ c.loop-item.invariant
