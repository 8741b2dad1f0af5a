-- What stands under a prefix and a number is a reference.
use Rattle.std.proofs.Common.{◌≡◌, refl, ℕ, ◌+◌, ◌<◌, ◌≤◌, ◌^◌, Bool, true, false, ◌||◌, ◌==◌, List, [], ◌∷◌, ◌++◌, length, All, codes, decimal, arith, length-append}
use Rattle.std.proofs.lemmas.Bool.Decides.{nat_tests}
use Rattle.std.proofs.lemmas.Fmt.{decimal_is_IsNumeral, length-decimal-le}
use Rattle.std.proofs.lemmas.List.Elements.{All-append, All-cons, All-nil}
use Rattle.std.specs.Char.{digit_value}
use Rattle.std.specs.Str.Parse.{AllDigits}
use Rattle.edits.specs.Texts.{IsReference, is_digit, is_letter}
use Rattle.reading_loading.specs.Puts.{IsPrefix, reference_of}

-- a number of at most nine digits
pub short_number : (number : ℕ) → number < 1_000_000_000 → length (decimal number) ≤ 9
short_number number few = length-decimal-le 9 number (omega arith) few (omega arith)

abbrev IsCode : ℕ → Type 0
IsCode code = (is_letter code || (is_digit code || (code == 45))) ≡ true

or_true : (a : Bool) → (a || true) ≡ true
or_true true = refl
or_true false = refl

is_digit-from : (c : ℕ) → digit_value c < 10 → is_digit c ≡ true
is_digit-from c h = grind (arith, nat_tests)

digits_are_codes : (ds : List ℕ) → AllDigits 10 ds → All IsCode ds
digits_are_codes [] h = All-nil IsCode
digits_are_codes (c ∷ cs) h =
    let digit = is_digit-from c h.0 in
    let first : IsCode c = rw digit (or_true (is_letter c)) in
    All-cons IsCode c cs first (digits_are_codes cs h.1)

hyphen : All IsCode (codes "-")
hyphen = All-cons IsCode 45 [] refl (All-nil IsCode)

pub is_reference : (prefix : List ℕ) (number : ℕ) → IsPrefix prefix → number < 1_000_000_000 → IsReference (reference_of prefix number)
is_reference prefix number is few =
    let small : number < 2 ^ 64 = omega arith in
    let front = length-append prefix (codes "-") in
    let whole = length-append (prefix ++ codes "-") (decimal number) in
    let digits = short_number number few in
    record {
      shortest = omega (arith, front, whole, is.reference.shortest);
      longest = omega (arith, front, whole, digits, is.longest);
      codes = All-append IsCode (prefix ++ codes "-") (decimal number) (All-append IsCode prefix (codes "-") is.reference.codes hyphen)
          (digits_are_codes (decimal number) (decimal_is_IsNumeral number small).0.1);
    }
