-- The quotient that is rounded is that of the area and the run.
use Rattle.std.proofs.Common.{◌≡◌, refl, ◌-ℤ◌, to_z, of_z, arith}
use Rattle.std.specs.Int.{w128}
use Rattle.std.proofs.lemmas.Int.{ints}
use Rattle.fixed_units.proofs.lines.risen_far.Goals as goal

run : (c : goal.After-difference-2) → to_z w128 (of_z w128 c.difference-2.result) ≡ c.args.to.0 -ℤ c.args.from.0
run c = omega (arith, ints)

pub div_half_away-requires-clause-positive : goal.div_half_away-requires-clause-positive
div_half_away-requires-clause-positive c = let e = run c in let r = c.requires.rising in omega (arith, ints, e, r)

pub returns : goal.returns
returns c =
    let same : to_z w128 (of_z w128 c.div_half_away.result) ≡ c.div_half_away.result = omega (arith, ints) in
    let area : to_z w128 (of_z w128 c.product-area.result) ≡ c.product-area.result = omega (arith, ints) in
    let up : to_z w128 (of_z w128 c.rise.result) ≡ c.rise.result = omega (arith, ints) in
    let gone : to_z w128 (of_z w128 c.difference.result) ≡ c.args.x -ℤ c.args.from.0 = omega (arith, ints) in
    let along : to_z w128 (of_z w128 c.difference-2.result) ≡ c.args.to.0 -ℤ c.args.from.0 = omega (arith, ints) in
    let value = rw (area, along) at c.div_half_away.ensures.value in
    let times = rw (up, gone, c.rise.ensures.value) at c.product-area.ensures.value in
    rw (same, value, times) refl
