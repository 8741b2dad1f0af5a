-- The product of two quantities fits.
use Rattle.std.proofs.Common.{◌≡◌, ℕ, ◌*◌, ◌^◌, ◌≤◌, ℤ, pos, negsuc, neg_ℤ, ◌+ℤ◌, ◌*ℤ◌, ◌≤ℤ◌, unsigned_abs, FitsSigned, to_z, of_z, arith}
use Rattle.std.specs.Int.{w128}
use Rattle.std.proofs.lemmas.Nat.{mul-le}
use Rattle.std.proofs.lemmas.Int.{ints, fits_signed_from_abs, unsigned_abs-mul}
use Rattle.fixed_units.specs.Quantities.{IsMicro, most_millionths}
use Rattle.fixed_units.proofs.LineLemmas.{abs-le}

within : (z : ℤ) (m : ℕ) → unsigned_abs z ≤ m → (neg_ℤ (pos m) ≤ℤ z) × (z ≤ℤ pos m)
within (pos n) m h = (omega (arith, ints), omega (arith, ints))
within (negsuc n) m h = (omega (arith, ints), omega (arith, ints))

product-abs : (a b : ℤ) → IsMicro a → IsMicro b → unsigned_abs (a *ℤ b) ≤ most_millionths * most_millionths
product-abs a b h k =
    let e = unsigned_abs-mul a b in
    let m : unsigned_abs a * unsigned_abs b ≤ most_millionths * most_millionths =
    mul-le (unsigned_abs a) (unsigned_abs b) most_millionths most_millionths (abs-le a most_millionths h.low h.high) (abs-le b most_millionths k.low k.high) in
    omega (arith, e, m)

pub product-fits : (a b : ℤ) → IsMicro a → IsMicro b → FitsSigned w128 (a *ℤ b)
product-fits a b h k = fits_signed_from_abs w128 (a *ℤ b) (omega (arith, product-abs a b h k))

pub product-within : (a b : ℤ) → IsMicro a → IsMicro b → (neg_ℤ (pos (10 ^ 34)) ≤ℤ (a *ℤ b)) × ((a *ℤ b) ≤ℤ pos (10 ^ 34))
product-within a b h k = within (a *ℤ b) (10 ^ 34) (omega (arith, product-abs a b h k))

-- and so does the sum of two products
pub added : (a b : ℤ) → neg_ℤ (pos (10 ^ 34)) ≤ℤ a → a ≤ℤ pos (10 ^ 34) → neg_ℤ (pos (10 ^ 34)) ≤ℤ b → b ≤ℤ pos (10 ^ 34)
    → to_z w128 (of_z w128 (to_z w128 (of_z w128 a) +ℤ to_z w128 (of_z w128 b))) ≡ a +ℤ b
added a b h k m n = omega (arith, ints)
