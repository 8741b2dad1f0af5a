use Rattle.std.proofs.Common.{◌≡◌, refl, ◌∙◌, ℕ, ◌^◌, ◌≤◌, ℤ, pos, ◌*ℤ◌, ◌≤ℤ◌, ◌<ℤ◌, unsigned_abs, w64, FitsSigned, to_z, of_z, arith}
use Rattle.std.specs.Int.{w128}
use Rattle.std.proofs.lemmas.Int.{ints, to_z-of_z}
use Rattle.fixed_units.specs.Rounding.{round}
use Rattle.fixed_units.specs.Published.{round_off}
use Rattle.fixed_units.proofs.PublishLemmas.{divisor-fits, divisor-above, round_off-abs, ten-le}
use Rattle.fixed_units.proofs.published.round_off.Goals as goal

-- the code's power and divisor are those of the definition
power-is : (n : ℤ) (off : ℕ) → off ≤ 17 → n ≡ pos (10 ^ off) → to_z w128 (of_z w128 n) ≡ pos (10 ^ off)
power-is n off h e =
    let high = ten-le off 17 h in
    let fits : FitsSigned w128 n = omega (arith, ints, e, high) in
    to_z-of_z w128 n fits ∙ e

divisor-is : (den power : ℤ) (off : ℕ) → off ≤ 17 → FitsSigned w128 den → pos 0 <ℤ den → den ≤ℤ pos (10 ^ 9) → power ≡ pos (10 ^ off)
    → to_z w128 (of_z w128 (to_z w128 (of_z w128 den) *ℤ to_z w128 (of_z w128 power))) ≡ den *ℤ pos (10 ^ off)
divisor-is den power off h fits p narrow e =
    rw (to_z-of_z w128 den fits, power-is power off h e) (to_z-of_z w128 (den *ℤ pos (10 ^ off)) (divisor-fits den off h p narrow))

pub overflow_mul-den : goal.overflow_mul-den
overflow_mul-den c =
    rw (to_z-of_z w128 c.args.den c.ranges.den, power-is c.pow-power.result c.args.off c.requires.off c.pow-power.ensures)
    (divisor-fits c.args.den c.args.off c.requires.off c.requires.positive c.requires.narrow)

pub div_half_away-requires-clause-positive : goal.div_half_away-requires-clause-positive
div_half_away-requires-clause-positive c =
    rw (divisor-is c.args.den c.pow-power.result c.args.off c.requires.off c.ranges.den c.requires.positive c.requires.narrow c.pow-power.ensures)
    (divisor-above c.args.den c.args.off c.requires.positive)

-- what is nearest, and its product
quotient-is : (c : goal.After-div_half_away) → c.div_half_away.result ≡ round c.args.num (c.args.den *ℤ pos (10 ^ c.args.off))
quotient-is c =
    c.div_half_away.ensures.value
    ∙ rw (to_z-of_z w128 c.args.num c.ranges.num, divisor-is c.args.den c.pow-power.result c.args.off c.requires.off c.ranges.den c.requires.positive c.requires.narrow c.pow-power.ensures) refl

product-is : (c : goal.After-div_half_away) → to_z w128 (of_z w128 c.div_half_away.result) *ℤ to_z w128 (of_z w128 c.pow-power.result) ≡ round_off c.args.off c.args.num c.args.den
product-is c =
    let small = c.div_half_away.type_inv in
    let fits : FitsSigned w128 c.div_half_away.result = omega (arith, ints) in
    rw (to_z-of_z w128 c.div_half_away.result fits, power-is c.pow-power.result c.args.off c.requires.off c.pow-power.ensures, quotient-is c) refl

magnitude : (c : goal.After-div_half_away) → unsigned_abs (round_off c.args.off c.args.num c.args.den) ≤ 10 ^ 17
magnitude c = round_off-abs c.args.num c.args.den c.args.off c.requires.off c.requires.positive c.requires.low c.requires.high

cast-is : (n : ℤ) → unsigned_abs n ≤ 10 ^ 17 → to_z w64 (of_z w64 (to_z w128 (of_z w128 n))) ≡ n
cast-is n h = omega (arith, ints)

pub overflow_mul-result : goal.overflow_mul-result
overflow_mul-result c = let h = magnitude c in rw (product-is c) (omega (arith, ints))

pub overflow_cast-result : goal.overflow_cast-result
overflow_cast-result c = let h = magnitude c in rw (product-is c) (omega (arith, ints))

pub returns-clause-value : goal.returns-clause-value
returns-clause-value c = rw (product-is c) (cast-is (round_off c.args.off c.args.num c.args.den) (magnitude c))

pub returns-clause-low : goal.returns-clause-low
returns-clause-low c = let h = magnitude c in rw (returns-clause-value c) (omega (arith, ints))

pub returns-clause-high : goal.returns-clause-high
returns-clause-high c = let h = magnitude c in rw (returns-clause-value c) (omega (arith, ints))
