-- The digits of a site.
use Rattle.std.proofs.Common.{◌≡◌, ℕ, ◌+◌, ◌-◌, ◌*◌, ◌^◌, ◌<◌, ◌≤◌, true, List, [], ◌∷◌, length, get_or, take, arith}
use Rattle.std.proofs.Math.Nat.{pow-le-pow_right}
use Rattle.std.proofs.lemmas.Bool.{and_parts}
use Rattle.std.proofs.lemmas.Bool.Decides.{nat_tests}
use Rattle.std.proofs.lemmas.Int.Digits.{digits_value-lt, digits_value_more}
use Rattle.std.proofs.lemmas.List.Sums.{AllPass-from_list_all}
use Rattle.std.proofs.lemmas.Str.Parse.{digits_value-take-le}
use Rattle.std.specs.Char.{digit_value, is_ascii_digit}
use Rattle.std.specs.List.{list_all}
use Rattle.std.specs.Str.Parse.{AllDigits, digits_value}

-- what a digit counts for
digit-value : (c : ℕ) → is_ascii_digit c ≡ true → digit_value c ≡ c - 48
digit-value c h = grind (arith, nat_tests)

digit-below : (c : ℕ) → is_ascii_digit c ≡ true → digit_value c < 10
digit-below c h = grind (arith, nat_tests)

all_digits : (ds : List ℕ) → list_all is_ascii_digit ds ≡ true → AllDigits 10 ds
all_digits [] e = tt
all_digits (c ∷ cs) e = let p = and_parts (is_ascii_digit c) (list_all is_ascii_digit cs) e in (digit-below c p.0, all_digits cs p.1)

-- so many digits write a number below that power of ten
pub digits_below : (ds : List ℕ) → list_all is_ascii_digit ds ≡ true → digits_value 10 ds < 10 ^ length ds
digits_below ds e = digits_value-lt 10 ds (all_digits ds e)

-- one more digit of at most fifteen
pub one_digit_more : (ds : List ℕ) (i x : ℕ) → i < length ds → list_all is_ascii_digit ds ≡ true → length ds ≤ 15 → x ≡ digits_value 10 (take i ds)
    → (x * 10 + (get_or ds i 0 - 48) ≡ digits_value 10 (take (i + 1) ds)) × (x * 10 + (get_or ds i 0 - 48) < 10 ^ 15)
one_digit_more ds i x h e few is =
    let digit = digit-value (get_or ds i 0) (AllPass-from_list_all is_ascii_digit ds e i 0 h) in
    let more = digits_value_more 10 ds i h in
    let next : x * 10 + (get_or ds i 0 - 48) ≡ digits_value 10 (take (i + 1) ds) = omega (arith, digit, more, is) in
    let least = digits_value-take-le 10 ds (i + 1) (omega arith) in
    let most : 10 ^ length ds ≤ 10 ^ 15 = pow-le-pow_right (omega arith) few in
    (next, omega (arith, next, least, digits_below ds e, most))
