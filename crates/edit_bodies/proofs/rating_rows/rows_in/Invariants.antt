use Rattle.std.proofs.Common.{◌≡◌, drop}
use Rattle.edit_bodies.proofs.EachLemmas.{behind}
use Rattle.edit_bodies.proofs.rating_rows.rows_in.Given as goal
use Rattle.edit_bodies.specs.Grammars.{each_of, rating_row_of}
use Rattle.edit_bodies.specs.Trees.{items_stated}

abbrev pub invariant-loop-item : goal.invariant-loop-item
invariant-loop-item l =
    behind l.rows.items (each_of rating_row_of (items_stated (drop l.item-index l.items))) ≡ each_of rating_row_of (items_stated l.items)
