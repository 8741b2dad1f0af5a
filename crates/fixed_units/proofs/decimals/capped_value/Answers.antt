use Rattle.std.proofs.Common.{◌+◌, ◌^◌}
use Rattle.fixed_units.proofs.DecimalLemmas.{capped-step}
use Rattle.fixed_units.proofs.decimals.capped_value.Goals as goal

pub loop-digit-preserved : goal.loop-digit-preserved
loop-digit-preserved c =
    let next = rw c.from.ensures at c.min-value.ensures in
    capped-step (10 ^ 13 + 1) c.args.before c.loop-digit.digit-index c.loop-digit.value c.min-value.result c.args.digits.now c.loop-digit-test.true c.requires.digits c.loop-digit.invariant next
