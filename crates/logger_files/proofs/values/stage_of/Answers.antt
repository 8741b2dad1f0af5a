-- What is divided fits.
use Rattle.std.proofs.Common.{◌≡◌, ◌∙◌, ap, ℤ, to_z, of_z, arith, Some}
use Rattle.std.specs.Int.{w128}
use Rattle.std.proofs.lemmas.Int.{ints}
use Rattle.fixed_units.specs.Quantities.{is_stage}
use Rattle.civil_days.specs.Spelling.{only}
use Rattle.logger_files.proofs.values.stage_of.Goals as goal

pub div_half_away-requires-clause-low : goal.div_half_away-requires-clause-low
div_half_away-requires-clause-low c = omega (arith, ints, c.sum_of.ensures.low, c.sum_of.ensures.high)

pub div_half_away-requires-clause-high : goal.div_half_away-requires-clause-high
div_half_away-requires-clause-high c = omega (arith, ints, c.sum_of.ensures.low, c.sum_of.ensures.high)

pub returns : goal.returns
returns c =
    let same : to_z w128 (of_z w128 c.div_half_away.result) ≡ c.div_half_away.result = omega (arith, ints) in
    let sum : to_z w128 (of_z w128 c.sum_of.result) ≡ c.sum_of.result = omega (arith, ints) in
    let divisor : to_z w128 (of_z w128 c.from-divisor.result) ≡ c.args.unit.divisor = omega (arith, ints, c.get.ensures.value, c.from-divisor.ensures) in
    c.stage_at.ensures ∙ ap (λ (z : ℤ). only is_stage (Some z)) (same ∙ rw (sum, divisor, c.sum_of.ensures.value) at c.div_half_away.ensures.value)
