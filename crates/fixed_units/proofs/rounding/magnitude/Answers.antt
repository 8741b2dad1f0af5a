-- The quotient of the magnitudes, which no rounding makes greater than the dividend.
use Rattle.std.proofs.Common.{◌≡◌, ◌∙◌, arith, ◌<◌, unsigned_abs}
use Rattle.std.proofs.lemmas.Int.{ints, to_z-of_z}
use Rattle.fixed_units.proofs.RoundingLemmas.{quotient-le, quotient_same}
use Rattle.fixed_units.proofs.rounding.magnitude.Goals as goal

pub returns-clause-value : goal.returns-clause-value
returns-clause-value c =
    let fits_num = c.ranges.num in
    let fits_den = c.ranges.den in
    let num : c.unsigned_abs.result ≡ unsigned_abs c.args.num = simp to_z-of_z at c.unsigned_abs.ensures.value in
    let den : c.unsigned_abs-2.result ≡ unsigned_abs c.args.den = simp to_z-of_z at c.unsigned_abs-2.ensures.value in
    c.round_up.ensures ∙ quotient_same c.unsigned_abs.result c.unsigned_abs-2.result (unsigned_abs c.args.num) (unsigned_abs c.args.den) num den

pub returns-clause-small : goal.returns-clause-small
returns-clause-small c =
    let above : 0 < c.unsigned_abs-2.result = omega (arith, ints) in
    let least = quotient-le c.unsigned_abs.result c.unsigned_abs-2.result above in
    omega (arith, ints)
