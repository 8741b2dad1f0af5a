-- The quotient that is rounded is that of the discharges, and fits.
use Rattle.std.proofs.Common.{◌≡◌, ◌∙◌, sym, subst, ℤ, pos, neg_ℤ, ◌≤ℤ◌, ◌-ℤ◌, ◌*ℤ◌, to_z, of_z, arith}
use Rattle.std.specs.Prelude.{◌*◌}
use Rattle.std.specs.Int.{w64, w128}
use Rattle.std.proofs.lemmas.Int.{ints}
use Rattle.fixed_units.specs.Quantities.{most_discharge}
use Rattle.fixed_units.specs.Rounding.{round}
use Rattle.measurements.proofs.RangeLemmas.{percent-bound}
use Rattle.measurements.proofs.measuring.hundredths.Goals as goal

quotient : (c : goal.After-div_half_away) → to_z w128 (of_z w128 c.div_half_away.result) ≡ round (pos 10_000 *ℤ (c.args.measured -ℤ c.args.rated)) c.args.rated
quotient c =
    let same : to_z w128 (of_z w128 c.div_half_away.result) ≡ c.div_half_away.result = omega (arith, ints) in
    let scaled : to_z w128 (of_z w128 c.scaled.result) ≡ c.scaled.result = omega (arith, ints) in
    let rated : to_z w128 (of_z w128 c.from.result) ≡ c.args.rated = omega (arith, ints, c.get.ensures.value, c.from.ensures) in
    let value = rw (scaled, rated, c.scaled.ensures.value) at c.div_half_away.ensures.value in
    same ∙ value

pub narrow-requires-clause-low : goal.narrow-requires-clause-low
narrow-requires-clause-low c =
    subst (λ (q : ℤ). neg_ℤ (pos (10_000 * most_discharge)) ≤ℤ q) (sym (quotient c)) ((percent-bound c.args.measured c.args.rated c.requires.measured c.requires.rated c.requires.some).0)

pub narrow-requires-clause-high : goal.narrow-requires-clause-high
narrow-requires-clause-high c =
    subst (λ (q : ℤ). q ≤ℤ pos (10_000 * most_discharge)) (sym (quotient c)) ((percent-bound c.args.measured c.args.rated c.requires.measured c.requires.rated c.requires.some).1)

pub returns : goal.returns
returns c =
    let narrowed : to_z w64 (of_z w64 c.narrow.result) ≡ c.narrow.result = omega (arith, ints) in
    let same : to_z w128 (of_z w128 c.div_half_away.result) ≡ c.div_half_away.result = omega (arith, ints) in
    let scaled : to_z w128 (of_z w128 c.scaled.result) ≡ c.scaled.result = omega (arith, ints) in
    let rated : to_z w128 (of_z w128 c.from.result) ≡ c.args.rated = omega (arith, ints, c.get.ensures.value, c.from.ensures) in
    let value = rw (scaled, rated, c.scaled.ensures.value) at c.div_half_away.ensures.value in
    narrowed ∙ c.narrow.ensures ∙ same ∙ value
