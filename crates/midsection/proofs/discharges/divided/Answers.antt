-- The quotient that is rounded fits.
use Rattle.std.proofs.Common.{◌≡◌, ◌∙◌, sym, subst, ℤ, pos, neg_ℤ, ◌≤ℤ◌, ◌*ℤ◌, to_z, of_z, arith}
use Rattle.std.specs.Prelude.{◌*◌, ◌^◌}
use Rattle.std.specs.Int.{w128}
use Rattle.std.proofs.lemmas.Int.{ints}
use Rattle.fixed_units.specs.Rounding.{round}
use Rattle.fixed_units.proofs.RoundingLemmas.{round-bound}
use Rattle.midsection.specs.Midsection.{IsFlow, parts}
use Rattle.midsection.proofs.discharges.divided.Goals as goal

bounded : (product den : ℤ) → pos 1 ≤ℤ den → neg_ℤ (pos (4 * 10 ^ 28)) ≤ℤ product → product ≤ℤ pos (4 * 10 ^ 28)
    → IsFlow (round product (((den *ℤ pos 1) *ℤ pos 2) *ℤ pos parts))
bounded product den some low high =
    let both = round-bound product (((den *ℤ pos 1) *ℤ pos 2) *ℤ pos parts) (2 * 10 ^ 16) (omega (arith, ints, some)) (omega (arith, ints, some, low)) (omega (arith, ints, some, high)) in
    record { low = both.0; high = both.1 }

quotient : (c : goal.After-div_half_away) → to_z w128 (of_z w128 c.div_half_away.result) ≡ round c.args.product (((c.args.den *ℤ pos 1) *ℤ pos 2) *ℤ pos parts)
quotient c =
    let same : to_z w128 (of_z w128 c.div_half_away.result) ≡ c.div_half_away.result = omega (arith, ints) in
    let product : to_z w128 (of_z w128 c.args.product) ≡ c.args.product = omega (arith, ints) in
    let divisor : to_z w128 (of_z w128 c.divisor.result) ≡ ((c.args.den *ℤ pos 1) *ℤ pos 2) *ℤ pos parts = omega (arith, ints, c.divisor.ensures) in
    let value = rw (product, divisor) at c.div_half_away.ensures.value in
    same ∙ value

pub quantity-requires : goal.quantity-requires
quantity-requires c = subst IsFlow (sym (quotient c)) (bounded c.args.product c.args.den c.requires.some c.requires.low c.requires.high)

pub returns-clause-value : goal.returns-clause-value
returns-clause-value c = c.quantity.ensures ∙ quotient c.before

pub returns-clause-range : goal.returns-clause-range
returns-clause-range c = subst IsFlow (sym (c.quantity.ensures ∙ quotient c.before)) (bounded c.args.product c.args.den c.requires.some c.requires.low c.requires.high)
