-- Straight lines between two points: how great the products are, and that a line keeps to the values of its ends.
use Rattle.std.proofs.Common.{◌≡◌, ℕ, ◌*◌, ◌^◌, ◌≤◌, ℤ, pos, negsuc, neg_ℤ, ◌-ℤ◌, ◌*ℤ◌, ◌≤ℤ◌, ◌<ℤ◌, unsigned_abs, FitsSigned, arith}
use Rattle.std.specs.Int.{w64, w128}
use Rattle.std.proofs.lemmas.Nat.{mul-le}
use Rattle.std.proofs.lemmas.Int.{ints, fits_signed_from_abs, unsigned_abs-mul}
use Rattle.fixed_units.specs.Quantities.{IsWithin, most_millionths}
use Rattle.fixed_units.specs.Lines.{line_at}
use Rattle.fixed_units.proofs.RoundingLemmas.{line-between, line-start, line-end}

-- what is at most m either way
pub abs-le : (z : ℤ) (m : ℕ) → neg_ℤ (pos m) ≤ℤ z → z ≤ℤ pos m → unsigned_abs z ≤ m
abs-le (pos n) m low high = omega (arith, ints)
abs-le (negsuc n) m low high = omega (arith, ints)

within : (z : ℤ) (m : ℕ) → unsigned_abs z ≤ m → (neg_ℤ (pos m) ≤ℤ z) × (z ≤ℤ pos m)
within (pos n) m h = (omega (arith, ints), omega (arith, ints))
within (negsuc n) m h = (omega (arith, ints), omega (arith, ints))

-- a rise between two quantities, and a part of a run
pub record IsPart (rise gone : ℤ) : Type 0 where
  pub low : neg_ℤ (pos (2 * most_millionths)) ≤ℤ rise
  pub high : rise ≤ℤ pos (2 * most_millionths)
  pub some : pos 0 ≤ℤ gone
  pub fits : gone ≤ℤ pos (2 ^ 64)

product-abs : (rise gone : ℤ) → IsPart rise gone → unsigned_abs (rise *ℤ gone) ≤ (2 * most_millionths) * 2 ^ 64
product-abs rise gone h =
    let e = unsigned_abs-mul rise gone in
    let m : unsigned_abs rise * unsigned_abs gone ≤ (2 * most_millionths) * 2 ^ 64 =
    mul-le (unsigned_abs rise) (unsigned_abs gone) (2 * most_millionths) (2 ^ 64) (abs-le rise (2 * most_millionths) h.low h.high) (abs-le gone (2 ^ 64) (omega (arith, ints, h.some)) h.fits) in
    omega (arith, e, m)

pub product-fits : (rise gone : ℤ) → IsPart rise gone → FitsSigned w128 (rise *ℤ gone)
product-fits rise gone h = fits_signed_from_abs w128 (rise *ℤ gone) (omega (arith, product-abs rise gone h))

pub product-within : (rise gone : ℤ) → IsPart rise gone → (neg_ℤ (pos (10 ^ 37)) ≤ℤ (rise *ℤ gone)) × ((rise *ℤ gone) ≤ℤ pos (10 ^ 37))
product-within rise gone h = within (rise *ℤ gone) (10 ^ 37) (omega (arith, product-abs rise gone h))

-- the product of a small rise and a part of a small run
pub record IsSmallPart (rise gone : ℤ) : Type 0 where
  pub low : neg_ℤ (pos (2 ^ 31)) ≤ℤ rise
  pub high : rise ≤ℤ pos (2 ^ 31)
  pub some : pos 0 ≤ℤ gone
  pub fits : gone ≤ℤ pos (2 ^ 31)

pub small-product-fits : (rise gone : ℤ) → IsSmallPart rise gone → FitsSigned w64 (rise *ℤ gone)
small-product-fits rise gone h =
    let e = unsigned_abs-mul rise gone in
    let m : unsigned_abs rise * unsigned_abs gone ≤ 2 ^ 31 * 2 ^ 31 =
    mul-le (unsigned_abs rise) (unsigned_abs gone) (2 ^ 31) (2 ^ 31) (abs-le rise (2 ^ 31) h.low h.high) (abs-le gone (2 ^ 31) (omega (arith, ints, h.some)) h.fits) in
    fits_signed_from_abs w64 (rise *ℤ gone) (omega (arith, e, m))

-- the line keeps to each range that has both its ends
pub line-within : (p q : ℤ × ℤ) (x least greatest : ℤ) → p.0 <ℤ q.0 → p.0 ≤ℤ x → x ≤ℤ q.0 → IsWithin least greatest p.1 → IsWithin least greatest q.1
    → IsWithin least greatest (line_at p q x)
line-within p q x least greatest h from until m n =
    let both = line-between p.1 q.1 least greatest (x -ℤ p.0) (q.0 -ℤ p.0) (omega (arith, ints)) (omega (arith, ints)) (omega (arith, ints)) m.low n.low m.high n.high in
    record { low = both.0; high = both.1 }

-- and meets them
pub line-first : (p q : ℤ × ℤ) → p.0 <ℤ q.0 → line_at p q p.0 ≡ p.1
line-first p q h =
    let none : p.0 -ℤ p.0 ≡ pos 0 = omega (arith, ints) in
    rw none (line-start p.1 q.1 (q.0 -ℤ p.0) (omega (arith, ints)))

pub line-last : (p q : ℤ × ℤ) → p.0 <ℤ q.0 → line_at p q q.0 ≡ q.1
line-last p q h = line-end p.1 q.1 (q.0 -ℤ p.0) (omega (arith, ints))
