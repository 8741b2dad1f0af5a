use Rattle.std.proofs.Common.{◌≡◌, refl, ◌∙◌, arith, pos, ◌+◌, ◌*◌, ◌/◌, ◌-ℤ◌, to_z, of_z, unsigned_abs}
use Rattle.std.specs.Int.{w128}
use Rattle.std.proofs.lemmas.Int.{ints, to_z-of_z}
use Rattle.fixed_units.proofs.RoundingLemmas.{round-IsRounded, round-from_abs, round-from_abs_below}
use Rattle.fixed_units.proofs.rounding.div_half_away.Goals as goal

pub returns-then-num-lt0-clause-value : goal.returns-then-num-lt0-clause-value
returns-then-num-lt0-clause-value c =
    let fits_num = c.ranges.num in
    let fits_den = c.ranges.den in
    let small = c.magnitude-magnitude.ensures.small in
    let value : c.magnitude-magnitude.result ≡ (2 * unsigned_abs c.args.num + unsigned_abs c.args.den) / (2 * unsigned_abs c.args.den) =
    simp to_z-of_z at c.magnitude-magnitude.ensures.value in
    let read : to_z w128 (of_z w128 (pos 0 -ℤ to_z w128 c.magnitude-magnitude.result)) ≡ pos 0 -ℤ pos c.magnitude-magnitude.result = omega (arith, ints) in
    read ∙ round-from_abs_below c.args.num c.args.den c.magnitude-magnitude.result (unsigned_abs c.args.num) (unsigned_abs c.args.den) (omega (arith, ints)) refl refl value

pub returns-then-num-lt0-clause-nearest : goal.returns-then-num-lt0-clause-nearest
returns-then-num-lt0-clause-nearest c =
    rw (returns-then-num-lt0-clause-value c) (round-IsRounded c.args.num c.args.den c.requires.positive)

pub returns-else-num-lt0-clause-value : goal.returns-else-num-lt0-clause-value
returns-else-num-lt0-clause-value c =
    let fits_num = c.ranges.num in
    let fits_den = c.ranges.den in
    let small = c.magnitude-magnitude.ensures.small in
    let value : c.magnitude-magnitude.result ≡ (2 * unsigned_abs c.args.num + unsigned_abs c.args.den) / (2 * unsigned_abs c.args.den) =
    simp to_z-of_z at c.magnitude-magnitude.ensures.value in
    let read : to_z w128 c.magnitude-magnitude.result ≡ pos c.magnitude-magnitude.result = omega (arith, ints) in
    read ∙ round-from_abs c.args.num c.args.den c.magnitude-magnitude.result (unsigned_abs c.args.num) (unsigned_abs c.args.den) (omega (arith, ints)) refl refl value

pub returns-else-num-lt0-clause-nearest : goal.returns-else-num-lt0-clause-nearest
returns-else-num-lt0-clause-nearest c =
    rw (returns-else-num-lt0-clause-value c) (round-IsRounded c.args.num c.args.den c.requires.positive)
