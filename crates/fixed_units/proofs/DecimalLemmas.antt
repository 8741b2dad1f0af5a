-- Decimal texts: where the point stands, and the number that capped digits write.
use Rattle.std.proofs.Common.{◌≡◌, refl, sym, ◌∙◌, ap, ℕ, ◌+◌, ◌-◌, ◌*◌, ◌^◌, ◌<◌, ◌≤◌, min, Bool, true, false, List, [], ◌∷◌, ◌++◌, length, get_or, take, drop, Some, None, arith, length-drop, ◌⊎◌, inl, inr}
use Rattle.std.specs.List.{list_all, position_or_len, before_first, after_first}
use Rattle.std.specs.Char.{digit_value, is_ascii_digit}
use Rattle.std.specs.Str.Parse.{digits_value, digits_value_after}
use Rattle.std.proofs.lemmas.List.Sums.{position_or_len_is, AllPass-from_list_all}
use Rattle.std.proofs.lemmas.Bool.Decides.{nat_tests}
use Rattle.std.proofs.lemmas.List.{take_all, drop_all, take_more}
use Rattle.std.proofs.lemmas.Bool.{cases_lt}
use Rattle.std.proofs.Math.Nat.{mul-le-mul_left, mul-le-mul_right, one-le-pow, pow-le-pow_right}
use Rattle.memchr.specs.Find.{IsFirstByte, is_byte}
use Rattle.fixed_units.specs.Decimals.{is_point}

not_true : (b : Bool) → ¬ (b ≡ true) → b ≡ false
not_true true n = absurd (n refl)
not_true false n = refl

-- the search for the point finds the place that the parts are cut at
pub place-Some : (text : List ℕ) (k : ℕ) → IsFirstByte (is_byte 46) text (Some k) → (position_or_len is_point text ≡ k) × (k < length text)
place-Some text k found =
    let high : k < length text = found.0.high in
    (position_or_len_is is_point text k 0 (omega arith) (λ j h. not_true _ (found.0.before j (omega arith) h)) (λ h. found.1), high)

pub place-None : (text : List ℕ) → IsFirstByte (is_byte 46) text None → position_or_len is_point text ≡ length text
place-None text found =
    position_or_len_is is_point text (length text) 0 (omega arith) (λ j h. not_true _ (found j (omega arith) h)) (λ h. absurd (omega arith))

pub whole-Some : (text : List ℕ) (k : ℕ) → IsFirstByte (is_byte 46) text (Some k) → take k text ≡ before_first is_point text
whole-Some text k found = ap (λ (n : ℕ). take n text) (sym (place-Some text k found).0)

pub fraction-Some : (text : List ℕ) (k : ℕ) → IsFirstByte (is_byte 46) text (Some k) → take (length text - (k + 1)) (drop (k + 1) text) ≡ after_first is_point text
fraction-Some text k found =
    let place = place-Some text k found in
    take_all (length text - (k + 1)) (drop (k + 1) text) (omega (arith, length-drop (k + 1) text)) ∙ ap (λ (n : ℕ). drop (n + 1) text) (sym place.0)

pub whole-None : (text : List ℕ) → IsFirstByte (is_byte 46) text None → text ≡ before_first is_point text
whole-None text found =
    let place = place-None text found in
    sym (take_all (position_or_len is_point text) text (omega arith))

pub fraction-None : (text : List ℕ) → IsFirstByte (is_byte 46) text None → take (length text - length text) (drop (length text) text) ≡ after_first is_point text
fraction-None text found =
    let place = place-None text found in
    let none = drop_all (length text) text (omega arith) in
    let after = drop_all (position_or_len is_point text + 1) text (omega arith) in
    take_all (length text - length text) (drop (length text) text) (omega (arith, length-drop (length text) text)) ∙ none ∙ sym after

-- one more digit
digits_value_after-push : (n : ℕ) (ds : List ℕ) (d : ℕ) → digits_value_after 10 n (ds ++ (d ∷ [])) ≡ digits_value_after 10 n ds * 10 + digit_value d
digits_value_after-push n [] d = refl
digits_value_after-push n (c ∷ ds) d = digits_value_after-push (n * 10 + digit_value c) ds d

pub digits_value_after-more : (n : ℕ) (ds : List ℕ) (i : ℕ) → i < length ds → digits_value_after 10 n (take (i + 1) ds) ≡ digits_value_after 10 n (take i ds) * 10 + digit_value (get_or ds i 0)
digits_value_after-more n ds i h = rw (take_more ds i 0 h) (digits_value_after-push n (take i ds) (get_or ds i 0))

-- the first digits write no less than they follow
digits_value_after-ge : (n : ℕ) (ds : List ℕ) → n ≤ digits_value_after 10 n ds
digits_value_after-ge n [] = omega arith
digits_value_after-ge n (d ∷ ds) = omega (arith, digits_value_after-ge (n * 10 + digit_value d) ds)

digits_value_after-mono : (m n : ℕ) (ds : List ℕ) → m ≤ n → digits_value_after 10 m ds ≤ digits_value_after 10 n ds
digits_value_after-mono m n [] h = h
digits_value_after-mono m n (d ∷ ds) h = digits_value_after-mono (m * 10 + digit_value d) (n * 10 + digit_value d) ds (omega arith)

-- the cap may be taken before the last digits are read
pub capped-after : (most n : ℕ) (ds : List ℕ) → min most (digits_value_after 10 (min most n) ds) ≡ min most (digits_value_after 10 n ds)
capped-after most n ds = by (cases_lt most n)
  where
    by : (most < n) ⊎ (n ≤ most) → min most (digits_value_after 10 (min most n) ds) ≡ min most (digits_value_after 10 n ds)
    by (inl h) =
        let e : min most n ≡ most = omega arith in
        rw e (omega (arith, digits_value_after-ge most ds, digits_value_after-mono most n ds (omega arith)))
    by (inr h) = let e : min most n ≡ n = omega arith in rw e refl

-- what a digit counts for
digit_value-digit : (c : ℕ) → is_ascii_digit c ≡ true → digit_value c ≡ c - 48
digit_value-digit c h = grind (arith, nat_tests)

-- a step of the loop
pub capped-step : (most n i x r : ℕ) (ds : List ℕ) → i < length ds → list_all is_ascii_digit ds ≡ true → x ≡ min most (digits_value_after 10 n (take i ds)) → r ≡ min (x * 10 + (get_or ds i 0 - 48)) most → r ≡ min most (digits_value_after 10 n (take (i + 1) ds))
capped-step most n i x r ds h digits before after =
    let digit : digit_value (get_or ds i 0) ≡ get_or ds i 0 - 48 = digit_value-digit _ (AllPass-from_list_all is_ascii_digit ds digits i 0 h) in
    let more = digits_value_after-more n ds i h in
    omega arith

digits_value_after-append : (n : ℕ) (xs ys : List ℕ) → digits_value_after 10 n (xs ++ ys) ≡ digits_value_after 10 (digits_value_after 10 n xs) ys
digits_value_after-append n [] ys = refl
digits_value_after-append n (x ∷ xs) ys = digits_value_after-append (n * 10 + digit_value x) xs ys

-- two runs of digits, read one after the other under a cap
pub capped-two : (most a r : ℕ) (xs ys : List ℕ) → a ≡ min most (digits_value_after 10 0 xs) → r ≡ min most (digits_value_after 10 a ys) → r ≡ min most (digits_value 10 (xs ++ ys))
capped-two most a r xs ys first second =
    let more = digits_value_after-append 0 xs ys in
    let whole : r ≡ min most (digits_value_after 10 (min most (digits_value_after 10 0 xs)) ys) = rw first at second in
    whole ∙ capped-after most (digits_value_after 10 0 xs) ys ∙ ap (λ (n : ℕ). min most n) (sym more)

pub ten-pow-le : (k : ℕ) → k ≤ 6 → (0 < 10 ^ k) × (10 ^ k ≤ 10 ^ 6)
ten-pow-le k h = (one-le-pow k 10 (omega arith), pow-le-pow_right (omega arith) h)

-- a cap may be taken before a factor
pub capped-product : (most r v p : ℕ) → 0 < p → r ≡ min most v → min most (r * p) ≡ min most (v * p)
capped-product most r v p h e = by (cases_lt most v)
  where
    by : (most < v) ⊎ (v ≤ most) → min most (r * p) ≡ min most (v * p)
    by (inl over) =
        let same : r ≡ most = omega arith in
        let one : most * 1 ≤ most * p = mul-le-mul_left most h in
        let other : most * p ≤ v * p = mul-le-mul_right p (omega arith) in
        rw same (omega arith)
    by (inr under) = let same : r ≡ v = omega arith in rw same refl
