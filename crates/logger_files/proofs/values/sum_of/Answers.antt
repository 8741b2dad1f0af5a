-- The sum fits.
use Rattle.std.proofs.Common.{◌≡◌, ◌∙◌, ap, ℤ, ◌+ℤ◌, ◌*ℤ◌, to_z, of_z, arith}
use Rattle.std.specs.Int.{w128}
use Rattle.std.proofs.lemmas.Int.{ints}
use Rattle.logger_files.proofs.ProductLemmas.{added}
use Rattle.logger_files.proofs.values.sum_of.Goals as goal

sum : (c : goal.After-product-2) → to_z w128 (of_z w128 (to_z w128 (of_z w128 c.product.result) +ℤ to_z w128 (of_z w128 c.product-2.result))) ≡ c.product.result +ℤ c.product-2.result
sum c = added c.product.result c.product-2.result c.product.ensures.low c.product.ensures.high c.product-2.ensures.low c.product-2.ensures.high

pub returns-clause-value : goal.returns-clause-value
returns-clause-value c =
    sum c ∙ ap (λ (z : ℤ). z +ℤ c.product-2.result) c.product.ensures.value ∙ ap (λ (z : ℤ). c.args.number *ℤ c.args.unit.factor +ℤ z) c.product-2.ensures.value

pub returns-clause-low : goal.returns-clause-low
returns-clause-low c = omega (arith, ints, c.product.ensures.low, c.product.ensures.high, c.product-2.ensures.low, c.product-2.ensures.high)

pub returns-clause-high : goal.returns-clause-high
returns-clause-high c = omega (arith, ints, c.product.ensures.low, c.product.ensures.high, c.product-2.ensures.low, c.product-2.ensures.high)
