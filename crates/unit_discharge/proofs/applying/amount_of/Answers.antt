-- Amounts in range give a value in range.
use Rattle.std.proofs.Common.{arith}
use Rattle.std.proofs.lemmas.Int.{ints}
use Rattle.curves.proofs.AmountLemmas.{series-IsAmount}
use Rattle.unit_discharge.proofs.applying.amount_of.Goals as goal

pub returns-clause-range : goal.returns-clause-range
returns-clause-range c =
    let amount = series-IsAmount c.args.at c.args.stage c.args.entries.now c.requires.amounts in
    record { low = omega (arith, ints, amount.low); high = omega (arith, ints, amount.high) }
