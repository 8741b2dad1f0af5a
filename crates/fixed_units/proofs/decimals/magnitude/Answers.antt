use Rattle.std.proofs.Common.{◌∙◌, ap, ◌^◌, ◌-◌, length, ℕ, ◌*◌, ◌+◌, ◌<◌, ◌≤◌, min, ◌++◌, arith}
use Rattle.std.proofs.lemmas.Nat.{mul-le}
use Rattle.std.specs.Str.Parse.{digits_value}
use Rattle.fixed_units.proofs.DecimalLemmas.{capped-two, capped-product, ten-pow-le}
use Rattle.fixed_units.proofs.decimals.magnitude.Goals as goal

pub overflow_mul-result : goal.overflow_mul-result
overflow_mul-result c =
    let power = ten-pow-le (6 - length c.args.fraction.now) (omega arith) in
    let product : c.capped_value-digits.result * c.pow.result ≤ (10 ^ 13 + 1) * 10 ^ 6 = mul-le c.capped_value-digits.result c.pow.result (10 ^ 13 + 1) (10 ^ 6) (omega arith) (omega arith) in
    omega arith

pub returns : goal.returns
returns c =
    let power = ten-pow-le (6 - length c.args.fraction.now) (omega arith) in
    let above : 0 < c.pow.result = omega arith in
    let read = capped-two (10 ^ 13 + 1) c.capped_value.result c.capped_value-digits.result c.args.whole.now c.args.fraction.now c.capped_value.ensures c.capped_value-digits.ensures in
    let exact = capped-product (10 ^ 13 + 1) c.capped_value-digits.result (digits_value 10 (c.args.whole.now ++ c.args.fraction.now)) c.pow.result above read in
    exact ∙ ap (λ (p : ℕ). min (10 ^ 13 + 1) (digits_value 10 (c.args.whole.now ++ c.args.fraction.now) * p)) c.pow.ensures
