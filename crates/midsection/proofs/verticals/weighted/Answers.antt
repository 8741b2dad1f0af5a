-- The sum fits.
use Rattle.std.proofs.Common.{arith}
use Rattle.std.proofs.lemmas.Int.{ints}
use Rattle.midsection.proofs.verticals.weighted.Goals as goal

pub returns : goal.returns
returns c =
    omega (
      arith,
      ints,
      c.get-upper.ensures.value,
      c.get-upper.ensures.range.low,
      c.get-upper.ensures.range.high,
      c.get-middle.ensures.value,
      c.get-middle.ensures.range.low,
      c.get-middle.ensures.range.high,
      c.get-lower.ensures.value,
      c.get-lower.ensures.range.low,
      c.get-lower.ensures.range.high,
    )
