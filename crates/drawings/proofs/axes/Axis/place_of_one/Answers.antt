use Rattle.std.proofs.Common.{◌≡◌, pos, ◌-ℤ◌, ◌*ℤ◌, to_z, of_z, arith}
use Rattle.std.specs.Int.{w64}
use Rattle.std.proofs.lemmas.Int.{ints}
use Rattle.drawings.proofs.AxisLemmas.{place_of_units, rounded_over}
use Rattle.drawings.proofs.axes.Axis.place_of_one.Goals as goal

pub unsigned-requires-clause-low : goal.unsigned-requires-clause-low
unsigned-requires-clause-low c =
    (c.line_at.ensures.between (pos 0) (pos 4_294_967_295) (record { low = omega (arith, ints); high = omega (arith, ints) })
    (record { low = omega (arith, ints); high = omega (arith, ints) })).low

pub unsigned-requires-clause-high : goal.unsigned-requires-clause-high
unsigned-requires-clause-high c =
    (c.line_at.ensures.between (pos 0) (pos 4_294_967_295) (record { low = omega (arith, ints); high = omega (arith, ints) })
    (record { low = omega (arith, ints); high = omega (arith, ints) })).high

pub returns-clause-near : goal.returns-clause-near
returns-clause-near c =
    let axis = c.args.self.now in
    let least : to_z w64 (of_z w64 axis.least) ≡ axis.least = omega (arith, ints) in
    let greatest : to_z w64 (of_z w64 axis.greatest) ≡ axis.greatest = omega (arith, ints) in
    let number : to_z w64 (of_z w64 c.args.number) ≡ c.args.number = omega (arith, ints) in
    let from : c.of_millionths-start.result ≡ pos axis.start = omega (arith, ints) in
    let until : c.of_millionths-end.result ≡ pos axis.end = omega (arith, ints) in
    let value = rw (least, greatest, number, from, until) at c.line_at.ensures.value in
    let between = rw (from, until) at c.line_at.ensures.between in
    let rise = (pos axis.end -ℤ pos axis.start) *ℤ (c.args.number -ℤ axis.least) in
    let run = axis.greatest -ℤ axis.least in
    place_of_units axis c.args.number c.line_at.result c.unsigned.result c.unsigned.ensures between
    (rounded_over c.line_at.result (pos axis.start) rise run value (c.round_is_rounded.ensures rise run (omega (arith, ints))))
