-- Publishing: how far rounding off goes, and which zeros it leaves.
use Rattle.std.proofs.Common.{◌≡◌, ap, sym, ◌∙◌, ℕ, ◌+◌, ◌-◌, ◌*◌, ◌^◌, ◌<◌, ◌≤◌, ℤ, pos, negsuc, neg_ℤ, ◌*ℤ◌, ◌≤ℤ◌, ◌<ℤ◌, unsigned_abs, arith, FitsSigned}
use Rattle.std.specs.Int.{w128}
use Rattle.std.proofs.Math.Nat.{one-le-pow, pow-le-pow_right, mul-le-mul_right, mul-le-mul_left}
use Rattle.std.proofs.lemmas.Nat.{pow-add}
use Rattle.std.proofs.lemmas.Int.{ints, unsigned_abs-mul, fits_signed_mul}
use Rattle.fixed_units.specs.Rounding.{round}
use Rattle.fixed_units.specs.Published.{round_off}
use Rattle.fixed_units.proofs.RoundingLemmas.{neg-mul, round-bound}

-- a power of ten is a multiple of each below it
pub ten-split : (n k : ℕ) → k ≤ n → 10 ^ n ≡ 10 ^ (n - k) * 10 ^ k
ten-split n k h =
    let whole : (n - k) + k ≡ n = omega arith in
    sym (ap (λ (m : ℕ). 10 ^ m) whole) ∙ pow-add 10 (n - k) k

pub ten-above : (k : ℕ) → 0 < 10 ^ k
ten-above k = one-le-pow k 10 (omega arith)

pub ten-le : (k n : ℕ) → k ≤ n → 10 ^ k ≤ 10 ^ n
ten-le k n h = pow-le-pow_right (omega arith) h

regrouped : (b m p : ℕ) → m * (b * p) ≡ b * (m * p)
regrouped b m p = omega arith

-- the nearest multiple of a magnitude of at most 10^17
pub round-abs : (num den : ℤ) (off : ℕ) → off ≤ 17 → pos 0 <ℤ den → neg_ℤ (den *ℤ pos (10 ^ 17)) ≤ℤ num → num ≤ℤ (den *ℤ pos (10 ^ 17))
    → unsigned_abs (round num (den *ℤ pos (10 ^ off))) ≤ 10 ^ (17 - off)
round-abs num (negsuc b) off h p low high = absurd (omega (arith, ints))
round-abs num (pos b) off h p low high =
    let split = ten-split 17 off h in
    let one : b * 1 ≤ b * 10 ^ off = mul-le-mul_left b (ten-above off) in
    let whole : 10 ^ (17 - off) * (b * 10 ^ off) ≡ b * 10 ^ 17 = regrouped b (10 ^ (17 - off)) (10 ^ off) ∙ ap (λ (x : ℕ). b * x) (sym split) in
    let turned = neg-mul (10 ^ (17 - off)) (b * 10 ^ off) in
    let bound = round-bound num (pos (b * 10 ^ off)) (10 ^ (17 - off)) (omega (arith, ints, one)) (rw turned (omega (arith, ints, whole))) (omega (arith, ints, whole)) in
    omega (arith, ints, bound)

-- and that multiple itself
pub round_off-abs : (num den : ℤ) (off : ℕ) → off ≤ 17 → pos 0 <ℤ den → neg_ℤ (den *ℤ pos (10 ^ 17)) ≤ℤ num → num ≤ℤ (den *ℤ pos (10 ^ 17))
    → unsigned_abs (round_off off num den) ≤ 10 ^ 17
round_off-abs num den off h p low high =
    let split = ten-split 17 off h in
    let bound : unsigned_abs (round num (den *ℤ pos (10 ^ off))) * 10 ^ off ≤ 10 ^ (17 - off) * 10 ^ off = mul-le-mul_right (10 ^ off) (round-abs num den off h p low high) in
    let product = unsigned_abs-mul (round num (den *ℤ pos (10 ^ off))) (pos (10 ^ off)) in
    omega (arith, bound, product, split)

-- the divisor fits, and is above 0
pub divisor-fits : (den : ℤ) (off : ℕ) → off ≤ 17 → pos 0 <ℤ den → den ≤ℤ pos (10 ^ 9) → FitsSigned w128 (den *ℤ pos (10 ^ off))
divisor-fits den off h p narrow =
    fits_signed_mul w128 den (pos (10 ^ off)) (10 ^ 9) (10 ^ 17) (omega (arith, ints)) (ten-le off 17 h) (omega arith)

pub divisor-above : (den : ℤ) (off : ℕ) → pos 0 <ℤ den → pos 0 <ℤ (den *ℤ pos (10 ^ off))
divisor-above (pos b) off p = let one : b * 1 ≤ b * 10 ^ off = mul-le-mul_left b (ten-above off) in omega (arith, ints, one)
divisor-above (negsuc b) off p = absurd (omega (arith, ints))
