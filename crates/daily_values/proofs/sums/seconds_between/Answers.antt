-- What is cut to the day is no longer than it.
use Rattle.std.proofs.Common.{arith}
use Rattle.std.proofs.lemmas.Int.{ints, clamps}
use Rattle.daily_values.proofs.sums.seconds_between.Goals as goal

pub positive_part-requires : goal.positive_part-requires
positive_part-requires c =
    omega (
      arith,
      ints,
      clamps,
      c.requires.longest,
      c.elapsed-2.ensures.value,
      c.elapsed-2.ensures.low,
      c.elapsed-2.ensures.high,
      c.left_end.ensures,
      c.right_end.ensures,
    )
