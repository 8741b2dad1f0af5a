-- A percent departure of discharges in range is a number of 64 bits.
use Rattle.std.proofs.Common.{ℤ, pos, neg_ℤ, ◌<ℤ◌, ◌≤ℤ◌, ◌-ℤ◌, ◌*ℤ◌, arith}
use Rattle.std.specs.Prelude.{◌*◌}
use Rattle.std.proofs.lemmas.Int.{ints}
use Rattle.fixed_units.specs.Quantities.{IsDischarge, most_discharge}
use Rattle.fixed_units.specs.Rounding.{round}
use Rattle.fixed_units.proofs.RoundingLemmas.{round-bound}

pub percent-bound : (m r : ℤ) → IsDischarge m → IsDischarge r → pos 0 <ℤ r
    → (neg_ℤ (pos (10_000 * most_discharge)) ≤ℤ round (pos 10_000 *ℤ (m -ℤ r)) r) × (round (pos 10_000 *ℤ (m -ℤ r)) r ≤ℤ pos (10_000 * most_discharge))
percent-bound m r h k p =
    round-bound (pos 10_000 *ℤ (m -ℤ r)) r (10_000 * most_discharge) p (omega (arith, ints, h.low, h.high, k.low, k.high, p)) (omega (arith, ints, h.low, h.high, k.low, k.high, p))
