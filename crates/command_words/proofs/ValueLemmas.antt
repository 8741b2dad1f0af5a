-- What the values of options say, and the texts that say it.
use Rattle.std.proofs.Common.{◌≡◌, ◌∙◌, ℕ, zero, suc, ◌-◌, ◌^◌, ◌<◌, ◌≤◌, ◌&&◌, Bool, true, false, cond, nat_le, List, [], ◌∷◌, ◌++◌, length, replicate, decimal, ℤ, pos, neg_ℤ, ◌≤ℤ◌, int_le, unsigned_abs, Option, Some, None, refl, subst, arith}
use Rattle.std.specs.Char.{digit_value, is_ascii_digit}
use Rattle.std.specs.List.{list_all}
use Rattle.std.specs.Str.Parse.{AllDigits, digits_value}
use Rattle.std.proofs.Math.Nat.{pow-le-pow_right}
use Rattle.std.proofs.lemmas.Fmt.{decimal_is_IsNumeral, length-decimal-le_wide}
use Rattle.std.proofs.lemmas.List.{length-append, length-replicate}
use Rattle.std.proofs.lemmas.List.Folds.{list_all-append}
use Rattle.std.proofs.lemmas.Bool.{and_parts}
use Rattle.std.proofs.lemmas.Bool.Decides.{nat_tests}
use Rattle.std.proofs.lemmas.Int.{ints}
use Rattle.civil_days.specs.Spelling.{date_of_text, day_of_text, instant_of_text, only, stamp_of_text}
use Rattle.fixed_units.specs.Quantities.{IsDay, IsSite, IsStamp, IsWithin, SiteNumber, is_within, is_day, is_stamp}
use Rattle.site_texts.proofs.SiteLemmas.{digits_below}
use Rattle.site_texts.specs.SiteText.{is_site_text, site_of_text, site_text}

chosen : {X : Type 0} (test : Bool) (x y : X) → cond test (Some x) None ≡ Some y → (test ≡ true) × (x ≡ y)
chosen true x y e = (refl, cc)
chosen false x y e = absurd (cc)

least_and_most : (n least greatest : ℕ) → (nat_le least n && nat_le n greatest) ≡ true → (least ≤ n) × (n ≤ greatest)
least_and_most n least greatest e =
    let p = and_parts (nat_le least n) (nat_le n greatest) e in
    let low = p.0 in
    let high = p.1 in
    (grind (arith, nat_tests), grind (arith, nat_tests))

-- the site of a text is one
pub site_read : (text : List ℕ) (site : SiteNumber) → site_of_text text ≡ Some site → IsSite site
site_read text site e =
    let is = chosen (is_site_text text) _ site e in
    let tests = and_parts _ (list_all is_ascii_digit text) is.0 in
    let long = least_and_most (length text) 8 15 tests.0 in
    let small = digits_below text tests.1 in
    subst IsSite is.1 (record { shortest = long.0; longest = long.1; written = small })

within : (least greatest n : ℤ) → is_within least greatest n ≡ true → IsWithin least greatest n
within least greatest n e =
    let p = and_parts (int_le least n) (int_le n greatest) e in
    let low = p.0 in
    let high = p.1 in
    record { low = grind (arith, ints); high = grind (arith, ints) }

kept : (kind : ℤ → Bool) (read : Option ℤ) (n : ℤ) → only kind read ≡ Some n → kind n ≡ true
kept kind None n e = absurd (cc)
kept kind (Some m) n e =
    let is = chosen (kind m) m n e in
    subst (λ (k : ℤ). kind k ≡ true) is.1 is.0

-- the day of a text is one of the calendar, and its instant a stamp
pub day_read : (text : List ℕ) (day : ℤ) → day_of_text text ≡ Some day → IsDay day
day_read text day e = within _ _ day (kept is_day (date_of_text text) day e)

pub stamp_read : (text : List ℕ) (instant : ℤ) → stamp_of_text text ≡ Some instant → IsStamp instant
stamp_read text instant e = within _ _ instant (kept is_stamp (instant_of_text text) instant e)

pub stage_small : (n : ℤ) → neg_ℤ (pos (10 ^ 11)) ≤ℤ n → n ≤ℤ pos (10 ^ 11) → unsigned_abs n ≤ 10 ^ 13
stage_small n low high = omega (arith, ints)

zeros_value : (k : ℕ) (ds : List ℕ) → digits_value 10 (replicate k 48 ++ ds) ≡ digits_value 10 ds
zeros_value zero ds = refl
zeros_value (suc k) ds = zeros_value k ds

zeros_pass : (k : ℕ) → list_all is_ascii_digit (replicate k 48) ≡ true
zeros_pass zero = refl
zeros_pass (suc k) = zeros_pass k

digit_passes : (c : ℕ) → digit_value c < 10 → is_ascii_digit c ≡ true
digit_passes c less = grind (arith, nat_tests)

digits_pass : (ds : List ℕ) → AllDigits 10 ds → list_all is_ascii_digit ds ≡ true
digits_pass [] all = refl
digits_pass (c ∷ cs) all = rw (digit_passes c all.0, digits_pass cs all.1) refl

-- each site has its text
pub site_again : (site : SiteNumber) → IsSite site → site_of_text (site_text site) ≡ Some site
site_again site is =
    let digits : List ℕ = decimal site.value in
    let zeros : ℕ = site.digits - length digits in
    let wide : 10 ^ site.digits ≤ 10 ^ 15 = pow-le-pow_right (omega arith) is.longest in
    let small : site.value < 2 ^ 64 = omega (arith, wide, is.written) in
    let numeral = decimal_is_IsNumeral site.value small in
    let few = length-decimal-le_wide site.digits site.value (omega (arith, is.shortest)) is.written (omega (arith, small)) in
    let many : length {A = ℕ} (replicate zeros 48) ≡ zeros = length-replicate zeros 48 in
    let long : length (site_text site) ≡ site.digits = omega (arith, few, many, length-append (replicate zeros 48) digits) in
    let all : list_all is_ascii_digit (site_text site) ≡ true =
    list_all-append is_ascii_digit (replicate zeros 48) digits ∙ rw (zeros_pass zeros, digits_pass digits numeral.0.1) refl in
    let value : digits_value 10 (site_text site) ≡ site.value = zeros_value zeros digits ∙ numeral.1 in
    let tests : (nat_le 8 (length (site_text site)) && nat_le (length (site_text site)) 15) ≡ true = grind (arith, nat_tests, long, is.shortest, is.longest) in
    rw (tests, all, long, value) refl
