-- The texts of published values: their sign, their whole part and their decimals are told apart, and so read back.
use Rattle.std.proofs.Common.{◌≡◌, refl, sym, ap, ◌∙◌, ℕ, zero, suc, ◌+◌, ◌-◌, ◌*◌, ◌^◌, ◌<◌, ◌≤◌, Bool, true, false, ◌&&◌, ◌==◌, nat_lt, List, [], ◌∷◌, ◌++◌, length, take, drop, replicate, ℤ, pos, negsuc, neg_ℤ, ◌*ℤ◌, int_lt, unsigned_abs, decimal, Ok, if◌then◌else◌, arith, length-append, length-drop}
use Rattle.std.specs.List.{list_all, position_or_len, before_first, after_first}
use Rattle.std.specs.Char.{is_ascii_digit, digit_value}
use Rattle.std.specs.Str.Parse.{AllDigits, digits_value, starts_with_minus, without_leading_sign}
use Rattle.std.proofs.Math.Seq.{take-append_seam, drop-append-add}
use Rattle.std.proofs.lemmas.Bool.Decides.{nat_tests}
use Rattle.std.proofs.lemmas.Fmt.{decimal_is_IsNumeral_wide}
use Rattle.std.proofs.lemmas.List.{take-append-drop, length-replicate, length-take-le}
use Rattle.std.proofs.lemmas.List.Folds.{list_all-append}
use Rattle.std.proofs.lemmas.Int.{ints}
use Rattle.fixed_units.specs.Decimals.{is_point, whole_part, fraction_part, is_decimal, millionths, decimal_of}
use Rattle.fixed_units.specs.PublishedText.{with_zeros, decimals_text, pointed_text, sign_text, published_text, micro_text}
use Rattle.fixed_units.specs.declared.published.Published.{Published}
use Rattle.std.proofs.Math.Nat.{mul-le-mul_left}
use Rattle.fixed_units.proofs.NearestLemmas.{value_parts}
use Rattle.fixed_units.proofs.PublishLemmas.{ten-above}
use Rattle.fixed_units.proofs.RoundingLemmas.{neg-mul}

both : (a b : Bool) → (a && b) ≡ true → (a ≡ true) × (b ≡ true)
both true true h = (refl, refl)
both true false h = absurd (cc)
both false b h = absurd (cc)

-- figures are digits, more than the places, and have the number's value
digit-passes : (c : ℕ) → digit_value c < 10 → is_ascii_digit c ≡ true
digit-passes c h = grind (arith, nat_tests)

digits-pass : (ds : List ℕ) → AllDigits 10 ds → list_all is_ascii_digit ds ≡ true
digits-pass [] h = refl
digits-pass (c ∷ cs) h = let first = digit-passes c h.0 in rw (first, digits-pass cs h.1) refl

zeros-pass : (k : ℕ) → list_all is_ascii_digit (replicate k 48) ≡ true
zeros-pass zero = refl
zeros-pass (suc k) = zeros-pass k

zeros-value : (k : ℕ) (ds : List ℕ) → digits_value 10 (replicate k 48 ++ ds) ≡ digits_value 10 ds
zeros-value zero ds = refl
zeros-value (suc k) ds = zeros-value k ds

figures-pass : (places n : ℕ) → n < 10 ^ 64 → list_all is_ascii_digit (with_zeros places (decimal n)) ≡ true
figures-pass places n h =
    let digits = digits-pass (decimal n) (decimal_is_IsNumeral_wide n h).0.1 in
    let zeros = zeros-pass (places + 1 - length (decimal n)) in
    list_all-append is_ascii_digit (replicate (places + 1 - length (decimal n)) 48) (decimal n) ∙ rw (zeros, digits) refl

figures-value : (places n : ℕ) → n < 10 ^ 64 → digits_value 10 (with_zeros places (decimal n)) ≡ n
figures-value places n h = zeros-value (places + 1 - length (decimal n)) (decimal n) ∙ (decimal_is_IsNumeral_wide n h).1

figures-long : (places n : ℕ) → places < length (with_zeros places (decimal n))
figures-long places n =
    let zeros : length {A = ℕ} (replicate (places + 1 - length (decimal n)) 48) ≡ places + 1 - length (decimal n) = length-replicate (places + 1 - length (decimal n)) 48 in
    omega (arith, zeros, length-append (replicate (places + 1 - length (decimal n)) 48) (decimal n))

-- digits before a point
digit-no_point : (c : ℕ) → is_ascii_digit c ≡ true → is_point c ≡ false
digit-no_point c h = grind (arith, nat_tests)

place : (whole rest : List ℕ) → list_all is_ascii_digit whole ≡ true → position_or_len is_point rest ≡ 0 → position_or_len is_point (whole ++ rest) ≡ length whole
place [] rest h first = first
place (c ∷ cs) rest h first =
    let digits = both (is_ascii_digit c) (list_all is_ascii_digit cs) h in
    let none = digit-no_point c digits.0 in
    let count : 1 + length cs ≡ suc (length cs) = omega arith in
    rw (none, place cs rest digits.1 first) count

-- a text that begins with a digit has no sign
digit-no_sign : (c : ℕ) → is_ascii_digit c ≡ true → ((c == 45) ≡ false) × ((c == 43) ≡ false)
digit-no_sign c h = (grind (arith, nat_tests), grind (arith, nat_tests))

no_sign : (whole rest : List ℕ) → 0 < length whole → list_all is_ascii_digit whole ≡ true
    → (starts_with_minus (whole ++ rest) ≡ false) × (without_leading_sign (whole ++ rest) ≡ whole ++ rest)
no_sign [] rest some h = absurd (omega arith)
no_sign (c ∷ cs) rest some h =
    let none = digit-no_sign c (both (is_ascii_digit c) (list_all is_ascii_digit cs) h).0 in
    (none.0, rw (none.0, none.1) refl)

some_places : (n : ℕ) → (suc n == 0) ≡ false
some_places n = grind (arith, nat_tests)

not_below : (n : ℕ) → int_lt (pos n) (pos 0) ≡ false
not_below n = grind (arith, nat_tests)

-- what stands behind the whole part
rest-place : (places : ℕ) (decimals : List ℕ) → position_or_len is_point (decimals_text places decimals) ≡ 0
rest-place zero decimals = refl
rest-place (suc places) decimals = rw (some_places places) refl

rest-after : (places : ℕ) (decimals : List ℕ) → length decimals ≡ places → drop 1 (decimals_text places decimals) ≡ decimals
rest-after zero [] h = refl
rest-after zero (d ∷ ds) h = absurd (omega (arith, h))
rest-after (suc places) decimals h = rw (some_places places) refl

-- the parts of a text without a sign
abbrev Parts : ℕ → List ℕ → Type 0
Parts places figures =
    (starts_with_minus (pointed_text places figures) ≡ false) × (without_leading_sign (pointed_text places figures) ≡ pointed_text places figures)
    × (before_first is_point (pointed_text places figures) ≡ take (length figures - places) figures)
    × (after_first is_point (pointed_text places figures) ≡ drop (length figures - places) figures)

pointed-parts : (places : ℕ) (figures : List ℕ) → places < length figures → list_all is_ascii_digit figures ≡ true → Parts places figures
pointed-parts places figures long digits =
    let whole = take (length figures - places) figures in
    let decimals = drop (length figures - places) figures in
    let whole_long : length whole ≡ length figures - places = length-take-le (length figures - places) figures (omega arith) in
    let decimals_long : length decimals ≡ places = omega (arith, length-drop (length figures - places) figures) in
    let joined : whole ++ decimals ≡ figures = take-append-drop (length figures - places) figures in
    let parted = sym (list_all-append is_ascii_digit whole decimals) ∙ ap (λ (xs : List ℕ). list_all is_ascii_digit xs) joined ∙ digits in
    let pass = both (list_all is_ascii_digit whole) (list_all is_ascii_digit decimals) parted in
    let none = no_sign whole (decimals_text places decimals) (omega (arith, whole_long)) pass.0 in
    let at = place whole (decimals_text places decimals) pass.0 (rest-place places decimals) in
    (none.0, none.1, rw at (take-append_seam whole (decimals_text places decimals)), rw at (drop-append-add whole (decimals_text places decimals) 1 ∙ rest-after places decimals decimals_long))

-- and with one
signed : (z : ℤ) (text : List ℕ) → starts_with_minus text ≡ false → without_leading_sign text ≡ text
    → (starts_with_minus (sign_text z ++ text) ≡ int_lt z (pos 0)) × (without_leading_sign (sign_text z ++ text) ≡ text)
signed (pos n) text h same = rw (not_below n) (h, same)
signed (negsuc n) text h same = (refl, refl)

-- what a published text has
pub record IsWritten (text : List ℕ) (v : Published) : Type 0 where
  pub sign : starts_with_minus text ≡ int_lt v.units (pos 0)
  pub digits : list_all is_ascii_digit (whole_part text ++ fraction_part text) ≡ true
  pub some : 0 < length (whole_part text ++ fraction_part text)
  pub value : digits_value 10 (whole_part text ++ fraction_part text) ≡ unsigned_abs v.units
  pub decimals : length (fraction_part text) ≡ v.places

pub text-IsWritten : (v : Published) → unsigned_abs v.units < 10 ^ 64 → IsWritten (published_text v) v
text-IsWritten v h =
    let figures = with_zeros v.places (decimal (unsigned_abs v.units)) in
    let long = figures-long v.places (unsigned_abs v.units) in
    let parts = pointed-parts v.places figures long (figures-pass v.places (unsigned_abs v.units) h) in
    let sign = signed v.units (pointed_text v.places figures) parts.0 parts.1 in
    let whole : whole_part (published_text v) ≡ take (length figures - v.places) figures = rw sign.1 parts.2 in
    let fraction : fraction_part (published_text v) ≡ drop (length figures - v.places) figures = rw sign.1 parts.3 in
    let joined : whole_part (published_text v) ++ fraction_part (published_text v) ≡ figures =
    rw (whole, fraction) (take-append-drop (length figures - v.places) figures) in
    record {
      sign = sign.0;
      digits = rw joined (figures-pass v.places (unsigned_abs v.units) h);
      some = rw joined (omega (arith, long));
      value = rw joined (figures-value v.places (unsigned_abs v.units) h);
      decimals = rw fraction (omega (arith, length-drop (length figures - v.places) figures, long));
    }

-- what such a text is read as
signed-value : (z : ℤ) (k : ℕ) → (if int_lt z (pos 0) then neg_ℤ (pos (unsigned_abs z * k)) else pos (unsigned_abs z * k)) ≡ z *ℤ pos k
signed-value (pos n) k = rw (not_below n) refl
signed-value (negsuc n) k = sym (neg-mul (suc n) k)

read-IsWritten : (text : List ℕ) (v : Published) → v.places ≤ 6 → unsigned_abs v.units * 10 ^ (6 - v.places) ≤ 10 ^ 13 → IsWritten text v
    → decimal_of text ≡ Ok (v.units *ℤ pos (10 ^ (6 - v.places)))
read-IsWritten text v few small w =
    let some : nat_lt 0 (length (whole_part text ++ fraction_part text)) ≡ true = grind (arith, nat_tests, w.some) in
    let decimal : is_decimal text ≡ true = rw (w.digits, some) refl in
    let within : nat_lt 6 (length (fraction_part text)) ≡ false = rw w.decimals (grind (arith, nat_tests)) in
    let exact : millionths text ≡ unsigned_abs v.units * 10 ^ (6 - v.places) = rw (w.value, w.decimals) refl in
    let low : nat_lt (10 ^ 13) (millionths text) ≡ false = rw exact (grind (arith, nat_tests)) in
    rw (decimal, within, low) (ap Ok (rw (exact, w.sign) (signed-value v.units (10 ^ (6 - v.places)))))

pub written-read : (v : Published) → v.places ≤ 6 → unsigned_abs v.units * 10 ^ (6 - v.places) ≤ 10 ^ 13 → decimal_of (published_text v) ≡ Ok (v.units *ℤ pos (10 ^ (6 - v.places)))
written-read v few small =
    let above = ten-above (6 - v.places) in
    let one : unsigned_abs v.units * 1 ≤ unsigned_abs v.units * 10 ^ (6 - v.places) = mul-le-mul_left (unsigned_abs v.units) above in
    read-IsWritten (published_text v) v few small (text-IsWritten v (omega (arith, one)))

pub micro-read : (n : ℤ) → unsigned_abs n ≤ 10 ^ 13 → decimal_of (micro_text n) ≡ Ok n
micro-read n h =
    let whole : n *ℤ pos 1 ≡ n = omega (arith, ints) in
    written-read (record { units = n; places = 6 }) (omega arith) (omega (arith, h)) ∙ ap Ok whole

-- a text tells its value
signed-unique : (x y : ℤ) → unsigned_abs x ≡ unsigned_abs y → int_lt x (pos 0) ≡ int_lt y (pos 0) → x ≡ y
signed-unique (pos m) (pos n) h e = ap pos h
signed-unique (pos m) (negsuc n) h e = let none = not_below m in absurd (cc)
signed-unique (negsuc m) (pos n) h e = let none = not_below n in absurd (cc)
signed-unique (negsuc m) (negsuc n) h e = ap (λ (k : ℕ). neg_ℤ (pos k)) h

pub text-unique : (v w : Published) → unsigned_abs v.units < 2 ^ 64 → unsigned_abs w.units < 2 ^ 64 → published_text v ≡ published_text w → v ≡ w
text-unique v w fits_v fits_w same =
    let first = text-IsWritten v (omega arith) in
    let second : IsWritten (published_text v) w = rw same (text-IsWritten w (omega arith)) in
    let units = signed-unique v.units w.units (sym first.value ∙ second.value) (sym first.sign ∙ second.sign) in
    value_parts v w units (sym first.decimals ∙ second.decimals)
