-- A line that is short rises little.
use Rattle.std.proofs.Common.{◌≡◌, ◌∙◌, ◌-ℤ◌, to_z, of_z, arith}
use Rattle.std.specs.Int.{w64, w128}
use Rattle.std.proofs.lemmas.Int.{ints}
use Rattle.fixed_units.proofs.lines.risen.Goals as goal

pub risen_little-requires-clause-low : goal.risen_little-requires-clause-low
risen_little-requires-clause-low c =
    let low = c.has_small_rise.ensures.low c.if-has_small_rise.true in
    omega (arith, ints, low, c.get.ensures.value, c.get.ensures.range.low, c.get.ensures.range.high, c.get-in-Some.ensures.value, c.get-in-Some.ensures.range.low, c.get-in-Some.ensures.range.high)

pub risen_little-requires-clause-high : goal.risen_little-requires-clause-high
risen_little-requires-clause-high c =
    let high = c.has_small_rise.ensures.high c.if-has_small_rise.true in
    omega (arith, ints, high, c.get.ensures.value, c.get.ensures.range.low, c.get.ensures.range.high, c.get-in-Some.ensures.value, c.get-in-Some.ensures.range.low, c.get-in-Some.ensures.range.high)

pub returns-in-Some : goal.returns-in-Some
returns-in-Some c =
    let up : to_z w64 (of_z w64 (to_z w64 (of_z w64 c.get.result) -ℤ to_z w64 (of_z w64 c.get-in-Some.result))) ≡ c.args.to.1 -ℤ c.args.from.1 =
    omega (arith, ints, c.get.ensures.value, c.get.ensures.range.low, c.get.ensures.range.high, c.get-in-Some.ensures.value, c.get-in-Some.ensures.range.low, c.get-in-Some.ensures.range.high) in
    let along : to_z w64 (of_z w64 c.in-Some.run') ≡ c.args.to.0 -ℤ c.args.from.0 = omega (arith, ints, c.in-Some.ensures.run) in
    let gone : to_z w64 (of_z w64 (to_z w64 (of_z w64 c.args.x) -ℤ to_z w64 (of_z w64 c.args.from.0))) ≡ c.args.x -ℤ c.args.from.0 = omega (arith, ints) in
    let value = rw (up, gone, along) at c.risen_little.ensures in
    let same : to_z w128 (of_z w128 c.from.result) ≡ c.risen_little.result = omega (arith, ints) in
    same ∙ value
