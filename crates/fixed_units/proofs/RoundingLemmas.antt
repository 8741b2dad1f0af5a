-- What rounding to the nearest gives: a rounded number exists, is the only one, and keeps to every whole bound
-- of the quotient.
use Rattle.std.proofs.Common.{◌≡◌, refl, ap, sym, ◌∙◌, ℕ, zero, suc, ◌+◌, ◌-◌, ◌*◌, ◌/◌, ◌<◌, ◌≤◌, ℤ, pos, negsuc, neg_ℤ, ◌+ℤ◌, ◌-ℤ◌, ◌*ℤ◌, ◌≤ℤ◌, ◌<ℤ◌, unsigned_abs, arith}
use Rattle.std.proofs.Math.Nat.{mul-le-mul_right, mul-le-mul_left}
use Rattle.std.proofs.lemmas.Int.{ints, by_lt_z}
use Rattle.std.proofs.Math.IntN.{*ℤ-zero, zero-*ℤ}
use borrow.Author.Differences.{up, down}
use Rattle.fixed_units.specs.Rounding.{IsRounded, round}

-- a product whose first factor has its sign turned
pub neg-mul : (q b : ℕ) → neg_ℤ (pos q) *ℤ pos b ≡ neg_ℤ (pos (q * b))
neg-mul zero b = let e : zero * b ≡ 0 = omega arith in rw e refl
neg-mul (suc q) b = refl

-- a quotient times its divisor
pub division : (x k : ℕ) → 0 < k → (k * (x / k) ≤ x) × (x < k * (x / k) + k)
division x k h = omega arith

doubled : (b q : ℕ) → 2 * b * q ≡ 2 * (q * b)
doubled b q = omega arith

-- twice the rest is at most b on either side, and less than b above the quotient
abbrev IsNear : ℕ → ℕ → ℕ → Type 0
IsNear n b q = (2 * (q * b) ≤ 2 * n + b) × (2 * n < 2 * (q * b) + b)

quotient-IsNear : (n b : ℕ) → 0 < b → IsNear n b ((2 * n + b) / (2 * b))
quotient-IsNear n b h =
    let parts = division (2 * n + b) (2 * b) (omega arith) in
    let same = doubled b ((2 * n + b) / (2 * b)) in
    omega (arith, parts, same)

-- a multiple that is at most half of b is none
multiple_below_half : (b q : ℕ) → 0 < b → 2 * (q * b) ≤ b → 2 * (q * b) < b
multiple_below_half b zero h le = omega arith
multiple_below_half b (suc q) h le = omega arith

near-IsRounded : (n b q : ℕ) → 0 < b → IsNear n b q → IsRounded (pos n) (pos b) (pos q)
near-IsRounded n b q h near =
    record {
      low = omega (arith, ints);
      high = omega (arith, ints);
      above = λ s. omega (arith, ints);
      below = λ s. omega (arith, ints, multiple_below_half b q h (omega (arith, ints)));
    }

near-IsRounded_below : (n b q : ℕ) → 0 < b → IsNear (suc n) b q → IsRounded (negsuc n) (pos b) (neg_ℤ (pos q))
near-IsRounded_below n b q h near =
    let turned = neg-mul q b in
    record {
      low = rw turned (omega (arith, ints));
      high = rw turned (omega (arith, ints));
      above = λ s. absurd (omega (arith, ints));
      below = λ s. rw turned (omega (arith, ints));
    }

pub round-IsRounded : (n d : ℤ) → pos 0 <ℤ d → IsRounded n d (round n d)
unfolding round
round-IsRounded (pos a) (pos b) h =
    let p : 0 < b = omega (arith, ints) in near-IsRounded a b _ p (quotient-IsNear a b p)
round-IsRounded (negsuc a) (pos b) h =
    let p : 0 < b = omega (arith, ints) in near-IsRounded_below a b _ p (quotient-IsNear (suc a) b p)
round-IsRounded n (negsuc b) h = absurd (omega (arith, ints))

-- a factor that is at least one more makes a product at least b more
pub one_more : (x y b : ℕ) → x < y → x * b + b ≤ y * b
one_more x y b h = let e : suc x * b ≤ y * b = mul-le-mul_right b h in omega arith

-- what is rounded is at most a whole m where the quotient is
pub rounded-at_most : (n d q m : ℤ) → pos 0 <ℤ d → IsRounded n d q → n ≤ℤ (m *ℤ d) → q ≤ℤ m
rounded-at_most n (pos b) q m h r s =
    by_lt_z m q
    (λ l. let more = one_more (up m + down q) (up q + down m) b (omega (arith, ints, l)) in absurd (omega (arith, ints, more, r.low)))
    (λ l. l)
rounded-at_most n (negsuc b) q m h r s = absurd (omega (arith, ints))

-- and at least a whole m where the quotient is
pub rounded-at_least : (n d q m : ℤ) → pos 0 <ℤ d → IsRounded n d q → (m *ℤ d) ≤ℤ n → m ≤ℤ q
rounded-at_least n (pos b) q m h r s =
    by_lt_z q m
    (λ l. let more = one_more (up q + down m) (up m + down q) b (omega (arith, ints, l)) in absurd (omega (arith, ints, more, r.high)))
    (λ l. l)
rounded-at_least n (negsuc b) q m h r s = absurd (omega (arith, ints))

-- rounding keeps the order
pub rounded-mono : (m n d q p : ℤ) → pos 0 <ℤ d → m ≤ℤ n → IsRounded m d q → IsRounded n d p → q ≤ℤ p
rounded-mono m (pos a) (pos b) q p h le r s =
    by_lt_z p q
    (λ l. let more = one_more (up p + down q) (up q + down p) b (omega (arith, ints, l)) in absurd (omega (arith, ints, more, r.low, s.above (omega (arith, ints)))))
    (λ l. l)
rounded-mono m (negsuc a) (pos b) q p h le r s =
    by_lt_z p q
    (λ l. let more = one_more (up p + down q) (up q + down p) b (omega (arith, ints, l)) in absurd (omega (arith, ints, more, s.high, r.below (omega (arith, ints)))))
    (λ l. l)
rounded-mono m n (negsuc b) q p h le r s = absurd (omega (arith, ints))

pub rounded-unique : (n d q p : ℤ) → pos 0 <ℤ d → IsRounded n d q → IsRounded n d p → q ≡ p
rounded-unique n d q p h r s =
    let one = rounded-mono n n d q p h (omega (arith, ints)) r s in
    let other = rounded-mono n n d p q h (omega (arith, ints)) s r in
    omega (arith, ints)

-- the rounded number keeps to a whole bound of the quotient
pub round-at_most : (n d m : ℤ) → pos 0 <ℤ d → n ≤ℤ (m *ℤ d) → round n d ≤ℤ m
round-at_most n d m h le = rounded-at_most n d (round n d) m h (round-IsRounded n d h) le

pub round-at_least : (n d m : ℤ) → pos 0 <ℤ d → (m *ℤ d) ≤ℤ n → m ≤ℤ round n d
round-at_least n d m h le = rounded-at_least n d (round n d) m h (round-IsRounded n d h) le

-- both of them, about 0
pub round-bound : (n d : ℤ) (m : ℕ) → pos 0 <ℤ d → (neg_ℤ (pos m) *ℤ d) ≤ℤ n → n ≤ℤ (pos m *ℤ d) → (neg_ℤ (pos m) ≤ℤ round n d) × (round n d ≤ℤ pos m)
round-bound n d m h low high = (round-at_least n d (neg_ℤ (pos m)) h low, round-at_most n d (pos m) h high)

pub round-mono : (m n d : ℤ) → pos 0 <ℤ d → m ≤ℤ n → round m d ≤ℤ round n d
round-mono m n d h le = rounded-mono m n d (round m d) (round n d) h le (round-IsRounded m d h) (round-IsRounded n d h)

-- a multiple is divided exactly
pub round-multiple : (q d : ℤ) → pos 0 <ℤ d → round (q *ℤ d) d ≡ q
round-multiple q d h =
    let above = round-at_most (q *ℤ d) d q h (omega (arith, ints)) in
    let below = round-at_least (q *ℤ d) d q h (omega (arith, ints)) in
    omega (arith, ints)

-- a part c of c + e of what is at most y, which is not below 0, is at most y
part-le : (x y : ℤ) (c e : ℕ) → x ≤ℤ y → pos 0 ≤ℤ y → (x *ℤ pos c) ≤ℤ (y *ℤ pos (c + e))
part-le x y c e p q =
    let first : (up x + down y) * c ≤ (up y + down x) * c = mul-le-mul_right c (omega (arith, ints)) in
    let second : down y * e ≤ up y * e = mul-le-mul_right e (omega (arith, ints)) in
    omega (arith, ints)

-- and of what is at least y, which is not above 0, at least y
part-ge : (x y : ℤ) (c e : ℕ) → y ≤ℤ x → y ≤ℤ pos 0 → (y *ℤ pos (c + e)) ≤ℤ (x *ℤ pos c)
part-ge x y c e p q =
    let first : (up y + down x) * c ≤ (up x + down y) * c = mul-le-mul_right c (omega (arith, ints)) in
    let second : up y * e ≤ down y * e = mul-le-mul_right e (omega (arith, ints)) in
    omega (arith, ints)

-- the line from v1 to v2, read k of n on the way and rounded, keeps to the bounds of its ends
line-at_most : (v1 v2 high : ℤ) (k n : ℕ) → 0 < n → k ≤ n → v1 ≤ℤ high → v2 ≤ℤ high → (v1 +ℤ round ((v2 -ℤ v1) *ℤ pos k) (pos n)) ≤ℤ high
line-at_most v1 v2 high k n h le first second =
    let whole : k + (n - k) ≡ n = omega arith in
    let part : ((v2 -ℤ v1) *ℤ pos k) ≤ℤ ((high -ℤ v1) *ℤ pos n) =
    rw whole at (part-le (v2 -ℤ v1) (high -ℤ v1) k (n - k) (omega (arith, ints)) (omega (arith, ints))) in
    let bound = round-at_most ((v2 -ℤ v1) *ℤ pos k) (pos n) (high -ℤ v1) (omega (arith, ints)) part in
    omega (arith, ints, bound)

line-at_least : (v1 v2 low : ℤ) (k n : ℕ) → 0 < n → k ≤ n → low ≤ℤ v1 → low ≤ℤ v2 → low ≤ℤ (v1 +ℤ round ((v2 -ℤ v1) *ℤ pos k) (pos n))
line-at_least v1 v2 low k n h le first second =
    let whole : k + (n - k) ≡ n = omega arith in
    let part : ((low -ℤ v1) *ℤ pos n) ≤ℤ ((v2 -ℤ v1) *ℤ pos k) =
    rw whole at (part-ge (v2 -ℤ v1) (low -ℤ v1) k (n - k) (omega (arith, ints)) (omega (arith, ints))) in
    let bound = round-at_least ((v2 -ℤ v1) *ℤ pos k) (pos n) (low -ℤ v1) (omega (arith, ints)) part in
    omega (arith, ints, bound)

pub line-between : (v1 v2 low high k n : ℤ) → pos 0 <ℤ n → pos 0 ≤ℤ k → k ≤ℤ n → low ≤ℤ v1 → low ≤ℤ v2 → v1 ≤ℤ high → v2 ≤ℤ high → (low ≤ℤ (v1 +ℤ round ((v2 -ℤ v1) *ℤ k) n)) × ((v1 +ℤ round ((v2 -ℤ v1) *ℤ k) n) ≤ℤ high)
line-between v1 v2 low high (pos k) (pos n) h some le low1 low2 high1 high2 =
    let p : 0 < n = omega (arith, ints) in
    let q : k ≤ n = omega (arith, ints) in
    (line-at_least v1 v2 low k n p q low1 low2, line-at_most v1 v2 high k n p q high1 high2)
line-between v1 v2 low high (negsuc k) n h some le low1 low2 high1 high2 = absurd (omega (arith, ints))
line-between v1 v2 low high (pos k) (negsuc n) h some le low1 low2 high1 high2 = absurd (omega (arith, ints))

pub quotient_same : (m k n d : ℕ) → m ≡ n → k ≡ d → (2 * m + k) / (2 * k) ≡ (2 * n + d) / (2 * d)
quotient_same m k n d e f = cc

-- and meets its ends
pub line-start : (v1 v2 n : ℤ) → pos 0 <ℤ n → v1 +ℤ round ((v2 -ℤ v1) *ℤ pos 0) n ≡ v1
line-start v1 v2 n h =
    let none : (v2 -ℤ v1) *ℤ pos 0 ≡ pos 0 *ℤ n = *ℤ-zero (v2 -ℤ v1) ∙ sym (zero-*ℤ n) in
    let first : round ((v2 -ℤ v1) *ℤ pos 0) n ≡ pos 0 = rw none (round-multiple (pos 0) n h) in
    omega (arith, ints)

pub line-end : (v1 v2 n : ℤ) → pos 0 <ℤ n → v1 +ℤ round ((v2 -ℤ v1) *ℤ n) n ≡ v2
line-end v1 v2 n h = let last = round-multiple (v2 -ℤ v1) n h in omega (arith, ints)

-- `round` by the rounded magnitude, at and above 0 and below it
pub round-from_abs : (n d : ℤ) (q m k : ℕ) → pos 0 ≤ℤ n → m ≡ unsigned_abs n → k ≡ unsigned_abs d → q ≡ (2 * m + k) / (2 * k) → pos q ≡ round n d
unfolding round
round-from_abs (pos n) d q m k h e f g = ap pos (g ∙ quotient_same m k n (unsigned_abs d) e f)
round-from_abs (negsuc n) d q m k h e f g = absurd (omega (arith, ints))

pub round-from_abs_below : (n d : ℤ) (q m k : ℕ) → n <ℤ pos 0 → m ≡ unsigned_abs n → k ≡ unsigned_abs d → q ≡ (2 * m + k) / (2 * k) → pos 0 -ℤ pos q ≡ round n d
unfolding round
round-from_abs_below (pos n) d q m k h e f g = absurd (omega (arith, ints))
round-from_abs_below (negsuc n) d q m k h e f g =
    let turned : pos 0 -ℤ pos q ≡ neg_ℤ (pos q) = omega (arith, ints) in
    turned ∙ ap (λ (i : ℕ). neg_ℤ (pos i)) (g ∙ quotient_same m k (suc n) (unsigned_abs d) e f)

-- no magnitude is rounded to a greater one
pub quotient-le : (n b : ℕ) → 0 < b → (2 * n + b) / (2 * b) ≤ n
quotient-le n b h = below _ (quotient-IsNear n b h)
  where
    below : (q : ℕ) → IsNear n b q → q ≤ n
    below zero near = omega arith
    below (suc q) near =
        let more : q * 1 ≤ q * b = mul-le-mul_left q h in
        omega arith
