-- How great products are.
use Rattle.std.proofs.Common.{◌≡◌, ℕ, ◌*◌, ◌≤◌, ℤ, pos, negsuc, neg_ℤ, ◌*ℤ◌, ◌≤ℤ◌, unsigned_abs, arith}
use Rattle.std.proofs.lemmas.Int.{ints, unsigned_abs-mul}
use Rattle.std.proofs.lemmas.Nat.{mul-le}
use Rattle.fixed_units.proofs.LineLemmas.{abs-le}

-- at most m either way
pub record IsAtMost (m : ℕ) (z : ℤ) : Type 0 where
  pub low : neg_ℤ (pos m) ≤ℤ z
  pub high : z ≤ℤ pos m

pub magnitude : (m : ℕ) (z : ℤ) → IsAtMost m z → unsigned_abs z ≤ m
magnitude m z h = abs-le z m h.low h.high

pub at_most : (m : ℕ) (z : ℤ) → unsigned_abs z ≤ m → IsAtMost m z
at_most m (pos n) h = record { low = omega (arith, ints); high = omega (arith, ints) }
at_most m (negsuc n) h = record { low = omega (arith, ints); high = omega (arith, ints) }

pub product_at_most : (m n : ℕ) (a b : ℤ) → IsAtMost m a → IsAtMost n b → IsAtMost (m * n) (a *ℤ b)
product_at_most m n a b h k =
    let e = unsigned_abs-mul a b in
    let l : unsigned_abs a * unsigned_abs b ≤ m * n = mul-le (unsigned_abs a) (unsigned_abs b) m n (magnitude m a h) (magnitude n b k) in
    at_most (m * n) (a *ℤ b) (omega (arith, e, l))
