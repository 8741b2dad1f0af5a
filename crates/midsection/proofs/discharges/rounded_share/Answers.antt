-- The quotient that is rounded is that of the discharge and the total.
use Rattle.std.proofs.Common.{◌≡◌, ◌∙◌, to_z, of_z, arith}
use Rattle.std.specs.Int.{w128}
use Rattle.std.proofs.lemmas.Int.{ints}
use Rattle.midsection.proofs.discharges.rounded_share.Goals as goal

pub returns : goal.returns
returns c =
    let scaled : to_z w128 (of_z w128 c.scaled.result) ≡ c.scaled.result = omega (arith, ints) in
    let total : to_z w128 (of_z w128 c.from.result) ≡ c.args.total = omega (arith, ints, c.get.ensures.value, c.from.ensures) in
    let same : to_z w128 (of_z w128 c.div_half_away.result) ≡ c.div_half_away.result = omega (arith, ints) in
    let value = rw (scaled, total, c.scaled.ensures.value) at c.div_half_away.ensures.value in
    same ∙ value
