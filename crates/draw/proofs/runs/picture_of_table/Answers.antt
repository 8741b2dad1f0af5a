-- What was written is a picture, or nothing was.
use Rattle.std.proofs.Common.{refl, inr}
use Rattle.draw.proofs.RunLemmas.{drawn_outcome, empty_outcome}
use Rattle.draw.proofs.runs.picture_of_table.Goals as goal

pub returns-then-drawn-clause-drawn : goal.returns-then-drawn-clause-drawn
returns-then-drawn-clause-drawn c =
    drawn_outcome c.args.table.now c.new-picture.result c.write_hydrograph.new.out c.in_ok-drawn.drawn c.new-picture.ensures c.if-drawn.true c.in_ok-drawn.ensures

pub returns-else-drawn-clause-undrawn : goal.returns-else-drawn-clause-undrawn
returns-else-drawn-clause-undrawn c =
    inr (refl, empty_outcome c.args.table.now c.new-picture.result c.write_hydrograph.new.out c.in_ok-drawn.drawn c.if-drawn.false c.in_ok-drawn.ensures)
