-- The sum is a quantity, so it fits.
use Rattle.std.proofs.Common.{◌≡◌, ◌∙◌, ◌+ℤ◌, to_z, of_z, arith}
use Rattle.std.specs.Int.{w128}
use Rattle.std.proofs.lemmas.Int.{ints}
use Rattle.fixed_units.proofs.lines.sum.Goals as goal

pub quantity-requires : goal.quantity-requires
quantity-requires c =
    let whole = c.requires c.get.ensures.range c.get-to.ensures.range in
    let same : to_z w128 (of_z w128 (to_z w128 (of_z w128 c.from.result) +ℤ to_z w128 (of_z w128 c.args.risen))) ≡ c.args.from +ℤ c.args.risen = omega (arith, ints, whole.low, whole.high, c.get.ensures.value, c.from.ensures) in
    rw same whole

pub returns : goal.returns
returns c =
    let whole = c.requires c.get.ensures.range c.get-to.ensures.range in
    let same : to_z w128 (of_z w128 (to_z w128 (of_z w128 c.from.result) +ℤ to_z w128 (of_z w128 c.args.risen))) ≡ c.args.from +ℤ c.args.risen = omega (arith, ints, whole.low, whole.high, c.get.ensures.value, c.from.ensures) in
    c.quantity.ensures ∙ same
