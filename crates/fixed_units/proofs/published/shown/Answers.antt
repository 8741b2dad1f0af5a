use Rattle.std.proofs.Common.{◌<◌, pos, ◌<ℤ◌, w64, FitsSigned, of_z, arith}
use Rattle.std.proofs.lemmas.Int.{ints, to_z-of_z, quot_fits}
use Rattle.fixed_units.proofs.PublishLemmas.{ten-le, ten-above}
use Rattle.fixed_units.proofs.published.shown.Goals as goal

pub nonzero_div-result : goal.nonzero_div-result
nonzero_div-result c =
    let high = ten-le c.min-decimals.result 6 (omega arith) in
    let low = ten-above c.min-decimals.result in
    let fits : FitsSigned w64 c.pow.result = omega (arith, ints, c.pow.ensures, high) in
    let above : pos 0 <ℤ c.pow.result = omega (arith, ints, c.pow.ensures, low) in
    let nonzero : 0 < of_z w64 c.pow.result = omega (arith, ints, above, fits) in
    (nonzero, rw (to_z-of_z w64 c.pow.result fits, to_z-of_z w64 c.args.millionths c.ranges.millionths) (quot_fits w64 c.args.millionths c.pow.result c.ranges.millionths above))
