use Rattle.std.proofs.Common.{◌≡◌, ap, ◌∙◌, ℕ, ◌+◌, ◌/◌, ◌<◌, ◌^◌, length, decimal, unsigned_abs, arith}
use Rattle.std.proofs.lemmas.Int.{to_z-of_z}
use Rattle.fixed_units.proofs.DigitLemmas.{digits-found, whole-small, whole-digits-few}
use Rattle.fixed_units.proofs.published.whole_digits.Goals as goal

-- the code's quotient
whole : (c : goal.After-unwrap_or) → c.unsigned_abs.result / c.unsigned_abs-2.result ≡ unsigned_abs c.args.num / unsigned_abs c.args.den
whole c =
    let fits_num = c.ranges.num in
    let fits_den = c.ranges.den in
    let num : c.unsigned_abs.result ≡ unsigned_abs c.args.num = simp to_z-of_z at c.unsigned_abs.ensures.value in
    let den : c.unsigned_abs-2.result ≡ unsigned_abs c.args.den = simp to_z-of_z at c.unsigned_abs-2.ensures.value in
    cc

pub returns-clause-value : goal.returns-clause-value
returns-clause-value c =
    let small = whole-small c.args.num c.args.den c.requires.positive c.requires.low c.requires.high in
    let same = whole c in
    let fits : c.unsigned_abs.result / c.unsigned_abs-2.result < 10 ^ 64 = omega (arith, small, same) in
    let found = digits-found (c.unsigned_abs.result / c.unsigned_abs-2.result) c.checked_ilog10.result fits c.checked_ilog10.ensures.none c.checked_ilog10.ensures.power_le c.checked_ilog10.ensures.next_power_gt in
    ap (λ (n : ℕ). n + 1) c.unwrap_or.ensures ∙ found ∙ ap (λ (n : ℕ). length (decimal n)) same

pub returns-clause-bound : goal.returns-clause-bound
returns-clause-bound c =
    let small = whole-small c.args.num c.args.den c.requires.positive c.requires.low c.requires.high in
    omega (arith, returns-clause-value c, whole-digits-few _ small)
