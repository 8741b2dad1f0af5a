-- Texts that end in a number.
use Rattle.std.proofs.Common.{◌≡◌, ℕ, ◌+◌, ◌%◌, ◌^◌, ◌<◌, ◌≤◌, true, ◌||◌, ◌==◌, [], ◌∷◌, ◌++◌, length, decimal, codes, arith, length-append, rules}
use Rattle.std.specs.Prelude.{All}
use Rattle.std.proofs.lemmas.List.Elements.{All-append, All-cons, All-nil}
use Rattle.std.proofs.lemmas.Fmt.{decimal_by_steps, length-decimal-le}
use Rattle.std.proofs.lemmas.Bool.Decides.{nat_tests}
use Rattle.edits.specs.Texts.{IsName, IsReference, is_digit, is_letter, is_printed}

one_code : (P : ℕ → Type 0) (code : ℕ) → P code → All P (code ∷ [])
one_code P code h = All-cons P code [] h (All-nil P)

-- what holds of each digit holds of each byte of a number
pub digits_are : (P : ℕ → Type 0) → ((code : ℕ) → 48 ≤ code → code ≤ 57 → P code) → (n : ℕ) → n < 2 ^ 64 → All P (decimal n)
digits_are P each n few =
    decimal_by_steps (λ m ds. All P ds) (λ m h. one_code P (48 + m) (each (48 + m) (omega arith) (omega arith)))
    (λ m ds h all. All-append P ds ((48 + m % 10) ∷ []) all (one_code P (48 + m % 10) (each (48 + m % 10) (omega arith) (omega arith)))) n few

digit_printed : (code : ℕ) → 48 ≤ code → code ≤ 57 → is_printed code ≡ true
digit_printed code a b = grind (arith, nat_tests)

digit_named : (code : ℕ) → 48 ≤ code → code ≤ 57 → (is_letter code || (is_digit code || (code == 45))) ≡ true
digit_named code a b = grind (arith, nat_tests)

-- the names of stations, and the references of edits
pub is_name : (n : ℕ) → n < 2 ^ 32 → IsName (codes "TRIAL " ++ decimal n)
is_name n few =
    let short : length (decimal n) ≤ 10 = length-decimal-le 10 n (omega arith) (omega arith) (omega arith) in
    let whole = length-append (codes "TRIAL ") (decimal n) in
    record {
      shortest = omega (arith, whole);
      longest = omega (arith, whole);
      codes = All-append (λ code. is_printed code ≡ true) (codes "TRIAL ") (decimal n) (search rules) (digits_are (λ code. is_printed code ≡ true) digit_printed n (omega arith));
    }

pub is_reference : (n : ℕ) → n < 2 ^ 32 → IsReference (codes "t-" ++ decimal n)
is_reference n few =
    let short : length (decimal n) ≤ 10 = length-decimal-le 10 n (omega arith) (omega arith) (omega arith) in
    let whole = length-append (codes "t-") (decimal n) in
    record {
      shortest = omega (arith, whole);
      longest = omega (arith, whole);
      codes = All-append (λ code. (is_letter code || (is_digit code || (code == 45))) ≡ true) (codes "t-") (decimal n) (search rules)
          (digits_are (λ code. (is_letter code || (is_digit code || (code == 45))) ≡ true) digit_named n (omega arith));
    }
