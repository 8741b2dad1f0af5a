-- The quotient of the magnitudes has the sign of the dividend.
use Rattle.std.proofs.Common.{◌≡◌, ◌∙◌, ap, arith, pos, ◌-ℤ◌, to_z, of_z, unsigned_abs}
use Rattle.std.specs.Int.{w64}
use Rattle.std.proofs.lemmas.Int.{ints, to_z-of_z}
use Rattle.fixed_units.proofs.RoundingLemmas.{round-from_abs, round-from_abs_below}
use Rattle.fixed_units.proofs.rounding.div_small.Goals as goal

pub returns-then-num-lt0 : goal.returns-then-num-lt0
returns-then-num-lt0 c =
    let fits_num = c.ranges.num in
    let fits_den = c.ranges.den in
    let m = c.small_magnitude-magnitude.result in
    let num : c.unsigned_abs.result ≡ unsigned_abs c.args.num = simp to_z-of_z at c.unsigned_abs.ensures.value in
    let here : to_z w64 (of_z w64 c.args.den) ≡ c.args.den = omega (arith, ints) in
    let den = ap unsigned_abs here in
    let within = c.small_magnitude-magnitude.ensures.within in
    let read : to_z w64 (of_z w64 (pos 0 -ℤ to_z w64 m)) ≡ pos 0 -ℤ pos m = omega (arith, ints, within, num) in
    read ∙ round-from_abs_below c.args.num c.args.den m c.unsigned_abs.result (unsigned_abs (to_z w64 (of_z w64 c.args.den))) (omega (arith, ints)) num den c.small_magnitude-magnitude.ensures.value

pub returns-else-num-lt0 : goal.returns-else-num-lt0
returns-else-num-lt0 c =
    let fits_num = c.ranges.num in
    let fits_den = c.ranges.den in
    let m = c.small_magnitude-magnitude.result in
    let num : c.unsigned_abs.result ≡ unsigned_abs c.args.num = simp to_z-of_z at c.unsigned_abs.ensures.value in
    let here : to_z w64 (of_z w64 c.args.den) ≡ c.args.den = omega (arith, ints) in
    let den = ap unsigned_abs here in
    let within = c.small_magnitude-magnitude.ensures.within in
    let read : to_z w64 m ≡ pos m = omega (arith, ints, within, num) in
    read ∙ round-from_abs c.args.num c.args.den m c.unsigned_abs.result (unsigned_abs (to_z w64 (of_z w64 c.args.den))) (omega (arith, ints)) num den c.small_magnitude-magnitude.ensures.value
