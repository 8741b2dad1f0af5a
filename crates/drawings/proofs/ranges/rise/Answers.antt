use Rattle.std.proofs.Common.{◌^◌, ◌-◌, arith}
use Rattle.std.proofs.lemmas.Nat.{mul-le}
use Rattle.drawings.proofs.ranges.rise.Goals as goal

pub overflow_mul-result : goal.overflow_mul-result
overflow_mul-result c =
    omega (arith, mul-le c.from.result c.from-2.result (2 ^ 32 - 1) (2 ^ 64 - 1) (omega arith) (omega arith))

pub returns-clause-few : goal.returns-clause-few
returns-clause-few c =
    omega (arith, mul-le c.from.result c.from-2.result (2 ^ 32 - 1) (2 ^ 64 - 1) (omega arith) (omega arith))
