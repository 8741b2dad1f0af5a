-- How many digits the whole millionths of a magnitude have.
use Rattle.std.proofs.Common.{◌≡◌, ℕ, ◌+◌, ◌-◌, ◌*◌, ◌/◌, ◌^◌, ◌<◌, ◌≤◌, length, Option, Some, None, ℤ, pos, negsuc, neg_ℤ, ◌*ℤ◌, ◌≤ℤ◌, ◌<ℤ◌, unsigned_abs, decimal, IfSome, arith, ◌⊎◌, inl, inr}
use Rattle.std.specs.Option.{IfNone, unwrap_or}
use Rattle.std.proofs.Math.Nat.{mul-le-mul_left, div-le_of_le-mul}
use Rattle.std.proofs.lemmas.Bool.{cases_lt}
use Rattle.std.proofs.lemmas.Nat.{pow-add}
use Rattle.std.proofs.lemmas.Fmt.{decimal_is_IsNumeral_wide, length-decimal-le_wide}
use Rattle.std.proofs.lemmas.Int.{ints}
use Rattle.std.proofs.lemmas.Int.Digits.{digits_value-lt}
use Rattle.fixed_units.specs.Published.{HasDigits}
use Rattle.fixed_units.proofs.RoundingLemmas.{division}
use Rattle.fixed_units.proofs.PublishLemmas.{ten-le}

-- a number is below the power of ten of its digits, and no power of fewer is above it
decimal-below : (n : ℕ) → n < 10 ^ 64 → (0 < length (decimal n)) × (n < 10 ^ length (decimal n))
decimal-below n h =
    let numeral = decimal_is_IsNumeral_wide n h in
    let below = digits_value-lt 10 (decimal n) numeral.0.1 in
    (numeral.0.0, rw numeral.1 at below)

length-decimal : (n k : ℕ) → n < 10 ^ 64 → 10 ^ k ≤ n → n < 10 * 10 ^ k → k + 1 ≡ length (decimal n)
length-decimal n k small low high =
    let next : 10 ^ (k + 1) ≡ 10 ^ k * 10 = pow-add 10 k 1 in
    let most = length-decimal-le_wide (k + 1) n (omega arith) (omega (arith, next)) small in
    by (cases_lt k (length (decimal n))) most
  where
    by : (k < length (decimal n)) ⊎ (length (decimal n) ≤ k) → length (decimal n) ≤ k + 1 → k + 1 ≡ length (decimal n)
    by (inl more) most = omega arith
    by (inr less) most = absurd (omega (arith, decimal-below n small, ten-le (length (decimal n)) k less))

-- what the logarithm finds
pub digits-found : (n : ℕ) (r : Option ℕ) → n < 10 ^ 64 → IfNone r (n ≡ 0) → IfSome r (λ k. 10 ^ k ≤ n) → IfSome r (λ k. n < 10 * 10 ^ k)
    → unwrap_or r 0 + 1 ≡ length (decimal n)
digits-found n (Some k) small none low high = length-decimal n k small low high
digits-found n None small none low high =
    let one = length-decimal-le_wide 1 n (omega arith) (omega (arith, none)) small in
    omega (arith, one, decimal-below n small)

-- the whole millionths of a magnitude of at most 10^17
pub whole-small : (num den : ℤ) → pos 0 <ℤ den → neg_ℤ (den *ℤ pos (10 ^ 17)) ≤ℤ num → num ≤ℤ (den *ℤ pos (10 ^ 17)) → unsigned_abs num / unsigned_abs den ≤ 10 ^ 17
whole-small num (pos b) h low high = div-le_of_le-mul b (omega (arith, ints))
whole-small num (negsuc b) h low high = absurd (omega (arith, ints))

pub whole-digits-few : (n : ℕ) → n ≤ 10 ^ 17 → length (decimal n) ≤ 18
whole-digits-few n h = length-decimal-le_wide 18 n (omega arith) (omega arith) (omega arith)

-- the number of digits of the quotient is that of the magnitude
pub quotient-HasDigits : (n d : ℕ) → 0 < d → n / d < 10 ^ 64 → HasDigits n d (length (decimal (n / d)))
quotient-HasDigits n d h small =
    let parts = division n d h in
    let bounds = decimal-below (n / d) small in
    let above : d * (n / d + 1) ≤ d * 10 ^ length (decimal (n / d)) = mul-le-mul_left d (omega (arith, bounds)) in
    record {
      one = omega (arith, bounds);
      from = λ more. by more parts (cases_lt (n / d) (10 ^ (length (decimal (n / d)) - 1)));
      below = omega (arith, parts, above);
    }
  where
    by : 1 < length (decimal (n / d)) → (d * (n / d) ≤ n) × (n < d * (n / d) + d) → (n / d < 10 ^ (length (decimal (n / d)) - 1)) ⊎ (10 ^ (length (decimal (n / d)) - 1) ≤ n / d) → d * 10 ^ (length (decimal (n / d)) - 1) ≤ n
    by more parts (inl less) =
        absurd (omega (arith, length-decimal-le_wide (length (decimal (n / d)) - 1) (n / d) (omega arith) less small))
    by more parts (inr least) =
        let product : d * 10 ^ (length (decimal (n / d)) - 1) ≤ d * (n / d) = mul-le-mul_left d least in
        omega (arith, parts, product)

-- and no magnitude has two such numbers
not_fewer : (n d a b : ℕ) → HasDigits n d a → HasDigits n d b → a < b → ⊥
not_fewer n d a b fewer more h =
    let product : d * 10 ^ a ≤ d * 10 ^ (b - 1) = mul-le-mul_left d (ten-le a (b - 1) (omega arith)) in
    let one = fewer.one in
    let from = more.from (omega (arith, one)) in
    omega (arith, from, fewer.below, product)

pub HasDigits-unique : (n d a b : ℕ) → HasDigits n d a → HasDigits n d b → a ≡ b
HasDigits-unique n d a b first second = by (cases_lt a b) (cases_lt b a)
  where
    by : (a < b) ⊎ (b ≤ a) → (b < a) ⊎ (a ≤ b) → a ≡ b
    by (inl h) g = absurd (not_fewer n d a b first second h)
    by (inr h) (inl g) = absurd (not_fewer n d b a second first g)
    by (inr h) (inr g) = omega arith
