-- The published value of a discharge is one that a table counts.
use Rattle.std.proofs.Common.{◌≡◌, refl, ap, sym, ◌∙◌, ℕ, zero, suc, ◌+◌, ◌-◌, ◌*◌, ◌^◌, ◌<◌, ◌≤◌, max, List, ℤ, pos, negsuc, neg_ℤ, ◌*ℤ◌, ◌≤ℤ◌, ◌<ℤ◌, unsigned_abs, subst, arith}
use Rattle.std.proofs.Math.Nat.{mul-le-mul_left, mul-le-mul_right}
use Rattle.std.proofs.lemmas.Int.{by_lt_z, ints, unsigned_abs-mul}
use Rattle.fixed_units.specs.Published.{HasDigits, IsPublished, published}
use Rattle.fixed_units.specs.Rounding.{IsRounded}
use Rattle.fixed_units.specs.RoundingArray.{IsRoundingArray, figures, most_decimals, rounded_off}
use Rattle.fixed_units.specs.declared.published.Published.{Published}
use Rattle.fixed_units.proofs.NearestLemmas.{published-IsPublished}
use Rattle.fixed_units.proofs.PublishLemmas.{divisor-above, ten-le, ten-split}
use Rattle.fixed_units.proofs.RoundingLemmas.{rounded-at_least, rounded-at_most}
use Rattle.water_year.specs.Rows.{IsCounted}

regrouped : (b m p : ℕ) → m * (b * p) ≡ b * (m * p)
regrouped b m p = omega arith

-- the nearest multiple of a power of ten to a discharge
nearest_within : (num den multiple : ℤ) (off : ℕ) → off ≤ 13 → pos 0 <ℤ den → pos 0 ≤ℤ num → num ≤ℤ (den *ℤ pos (10 ^ 13))
    → IsRounded num (den *ℤ pos (10 ^ off)) multiple → unsigned_abs (multiple *ℤ pos (10 ^ off)) ≤ 10 ^ 13
nearest_within num (negsuc b) multiple off h p low high is = absurd (omega (arith, ints))
nearest_within num (pos b) multiple off h p low high is =
    let split = ten-split 13 off h in
    let above = divisor-above (pos b) off p in
    let whole : 10 ^ (13 - off) * (b * 10 ^ off) ≡ b * 10 ^ 13 = regrouped b (10 ^ (13 - off)) (10 ^ off) ∙ ap (λ (x : ℕ). b * x) (sym split) in
    let most = rounded-at_most num (pos (b * 10 ^ off)) multiple (pos (10 ^ (13 - off))) above is (omega (arith, ints, whole, high)) in
    let least = rounded-at_least num (pos (b * 10 ^ off)) multiple (pos 0) above is (omega (arith, ints, low)) in
    let size : unsigned_abs multiple ≤ 10 ^ (13 - off) = omega (arith, ints, most, least) in
    let bound : unsigned_abs multiple * 10 ^ off ≤ 10 ^ (13 - off) * 10 ^ off = mul-le-mul_right (10 ^ off) size in
    let product = unsigned_abs-mul multiple (pos (10 ^ off)) in
    omega (arith, bound, product, split)

-- a discharge has at most fourteen digits of millionths
few_digits : (n d digits : ℕ) → 0 < d → n ≤ d * 10 ^ 13 → HasDigits n d digits → digits ≤ 14
few_digits n d digits some most is =
    by_lt_z (pos 14) (pos digits)
    (λ l.
    let many : 14 ≤ digits - 1 = omega (arith, ints, l) in
    let from = is.from (omega (arith, ints, l)) in
    let power : d * 10 ^ 14 ≤ d * 10 ^ (digits - 1) = mul-le-mul_left d (ten-le 14 (digits - 1) many) in
    absurd (omega (arith, from, power, most, some)))
    (λ l. omega (arith, ints, l))

off_few : (m d f : ℕ) → d ≤ 14 → 1 ≤ f → max (6 - m) (d - f) ≤ 13
off_few m d f h k = omega (arith, h, k)

few_places : (p x : ℕ) → p ≡ 6 - x → p ≤ 6
few_places p x e = omega (arith, e)

counted : (array : List ℕ) (num : ℤ) (d : ℕ) (v : Published) → IsRoundingArray array → pos 0 <ℤ pos d → pos 0 ≤ℤ num → num ≤ℤ (pos d *ℤ pos (10 ^ 13))
    → IsPublished array num (pos d) v → IsCounted v
counted array num d v ok some low high is = by (figures array is.digits) refl
  where
    by : (f : ℕ) → figures array is.digits ≡ f → IsCounted v
    by zero none =
        let same = is.none none in
        subst IsCounted (sym same) (record { places = ok.decimals; magnitude = omega (arith, ints) })
    by (suc f) figure =
        let near = is.some (λ e. absurd (cc (sym e ∙ figure))) in
        let digits = few_digits (unsigned_abs num) d is.digits (omega (arith, ints, some)) (omega (arith, ints, low, high)) is.counted in
        let off : rounded_off array is.digits ≤ 13 = off_few (most_decimals array) is.digits (figures array is.digits) digits (omega (arith, figure)) in
        let within = nearest_within num (pos d) near.multiple (rounded_off array is.digits) off some low high near.nearest in
        record {
          places = few_places v.places _ near.places;
          magnitude = subst (λ (n : ℤ). unsigned_abs n ≤ 10 ^ 13) (sym near.value) within;
        }

pub published_counted : (array : List ℕ) (num den : ℤ) → IsRoundingArray array → pos 0 <ℤ den → pos 0 ≤ℤ num → num ≤ℤ (den *ℤ pos (10 ^ 13))
    → IsCounted (published array num den)
published_counted array num (negsuc d) ok some low high = absurd (omega (arith, ints))
published_counted array num (pos d) ok some low high =
    counted array num d (published array num (pos d)) ok some low high
    (published-IsPublished array num (pos d) some (omega (arith, ints, low)) (omega (arith, ints, high)))
