use Rattle.std.proofs.Common.{◌≡◌, arith, unsigned_abs, FitsSigned, w64}
use Rattle.std.specs.Int.{w128}
use Rattle.std.proofs.lemmas.Int.{ints, to_z-of_z}
use Rattle.fixed_units.specs.Published.{round_off, shown}
use Rattle.fixed_units.proofs.NearestLemmas.{published-assembled}
use Rattle.fixed_units.proofs.published.publish_digits.Goals as goal

pub returns : goal.returns
returns c =
    let num = to_z-of_z w128 c.args.num c.ranges.num in
    let den = to_z-of_z w128 c.args.den c.ranges.den in
    let low = c.round_off-rounded.ensures.low in
    let high = c.round_off-rounded.ensures.high in
    let fits : FitsSigned w64 c.round_off-rounded.result = omega (arith, ints) in
    let same = to_z-of_z w64 c.round_off-rounded.result fits in
    let rounded : c.round_off-rounded.result ≡ round_off c.rounded_off.result c.args.num c.args.den = rw (num, den) at c.round_off-rounded.ensures.value in
    let magnitude : c.unsigned_abs.result ≡ unsigned_abs c.round_off-rounded.result = rw same at c.unsigned_abs.ensures.value in
    let value : c.shown.result ≡ shown c.left_out.result c.round_off-rounded.result = rw same at c.shown.ensures in
    published-assembled c.args.array.now c.args.digits c.figures.result c.rounded_off.result c.unsigned_abs.result c.left_out.result c.args.num c.args.den c.round_off-rounded.result c.shown.result
    c.figures.ensures.value c.if-figures-eq0.false c.rounded_off.ensures rounded magnitude c.left_out.ensures value
