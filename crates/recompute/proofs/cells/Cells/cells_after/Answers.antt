use Rattle.std.specs.Prelude.{◌+◌}
use Rattle.std.proofs.Common.{arith}
use Rattle.recompute.proofs.ReplaceLemmas.{cells_most, fits_small}
use Rattle.recompute.proofs.cells.Cells.cells_after.Goals as goal

pub overflow_add-result : goal.overflow_add-result
overflow_add-result c =
    let most = cells_most c.self.inside.stations.items c.self.invariant.few c.self.invariant.spans in
    let kept = c.self.invariant.kept_cells in
    let after = c.count_after.ensures.most in
    fits_small (c.self.inside.cells + c.count_after.result) (omega (arith, most, kept, after))
