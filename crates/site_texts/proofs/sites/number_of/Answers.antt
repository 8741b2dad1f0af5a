use Rattle.std.proofs.Common.{arith}
use Rattle.site_texts.proofs.SiteLemmas.{one_digit_more}
use Rattle.site_texts.proofs.sites.number_of.Goals as goal

pub overflow_mul-value : goal.overflow_mul-value
overflow_mul-value c =
    omega (arith, one_digit_more c.args.digits.now c.loop-digit.digit-index c.loop-digit.value c.loop-digit-test.true c.requires.digits c.requires.few c.loop-digit.invariant)
