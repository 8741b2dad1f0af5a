-- The product fits.
use Rattle.std.proofs.Common.{◌≡◌, ◌*ℤ◌, to_z, of_z, arith}
use Rattle.std.specs.Int.{w128}
use Rattle.std.proofs.lemmas.Int.{ints, to_z-of_z}
use Rattle.logger_files.proofs.ProductLemmas.{product-fits, product-within}
use Rattle.logger_files.proofs.values.product.Goals as goal

pub returns-clause-low : goal.returns-clause-low
returns-clause-low c =
    let one : to_z w128 (of_z w128 c.from.result) ≡ c.args.one = omega (arith, ints, c.from.ensures, c.get.ensures.value, c.get.ensures.range.low, c.get.ensures.range.high) in
    let other : to_z w128 (of_z w128 c.from-2.result) ≡ c.args.other = omega (arith, ints, c.from-2.ensures, c.get-2.ensures.value, c.get-2.ensures.range.low, c.get-2.ensures.range.high) in
    let fits = product-fits c.args.one c.args.other c.get.ensures.range c.get-2.ensures.range in
    rw (one, other, to_z-of_z w128 (c.args.one *ℤ c.args.other) fits) ((product-within c.args.one c.args.other c.get.ensures.range c.get-2.ensures.range).0)

pub returns-clause-high : goal.returns-clause-high
returns-clause-high c =
    let one : to_z w128 (of_z w128 c.from.result) ≡ c.args.one = omega (arith, ints, c.from.ensures, c.get.ensures.value, c.get.ensures.range.low, c.get.ensures.range.high) in
    let other : to_z w128 (of_z w128 c.from-2.result) ≡ c.args.other = omega (arith, ints, c.from-2.ensures, c.get-2.ensures.value, c.get-2.ensures.range.low, c.get-2.ensures.range.high) in
    let fits = product-fits c.args.one c.args.other c.get.ensures.range c.get-2.ensures.range in
    rw (one, other, to_z-of_z w128 (c.args.one *ℤ c.args.other) fits) ((product-within c.args.one c.args.other c.get.ensures.range c.get-2.ensures.range).1)
