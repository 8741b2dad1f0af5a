-- The number so far is that of the first digits, and below 10^9.
use Rattle.std.proofs.Common.{arith}
use Rattle.wire.proofs.LengthLemmas.{one_more_digit, first_digits_below}
use Rattle.http_api.proofs.parameters.value_of.Goals as goal

pub overflow_mul-value : goal.overflow_mul-value
overflow_mul-value c =
    omega (arith, first_digits_below 9 c.args.digits.now c.loop-digit.digit-index c.requires.digits c.requires.few)

pub overflow_add-value : goal.overflow_add-value
overflow_add-value c =
    omega (arith, first_digits_below 9 c.args.digits.now c.loop-digit.digit-index c.requires.digits c.requires.few)

pub loop-digit-preserved : goal.loop-digit-preserved
loop-digit-preserved c =
    one_more_digit c.args.digits.now c.loop-digit.digit-index c.loop-digit.value c.from.result c.requires.digits
    c.loop-digit-test.true c.loop-digit.invariant c.from.ensures
