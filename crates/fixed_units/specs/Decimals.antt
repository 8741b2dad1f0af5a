-- The decimal texts of quantities: a sign where there is one, then digits with at most one point among,
-- before or after them (this project's choice; no exponents).
use Rattle.std.specs.Prelude.{ℕ, ◌-◌, ◌*◌, ◌^◌, Bool, ◌&&◌, ◌==◌, not, nat_lt, if◌then◌else◌, List, ◌++◌, length, ℤ, pos, neg_ℤ, Result, Ok, Err}
use Rattle.std.specs.List.{list_all, before_first, after_first}
use Rattle.std.specs.Char.{is_ascii_digit}
use Rattle.std.specs.Str.Parse.{digits_value, starts_with_minus, without_leading_sign}
use Rattle.fixed_units.specs.Quantities.{most_stated}
use Rattle.fixed_units.specs.declared.decimals.Bad.{Bad}
use Rattle.fixed_units.specs.declared.decimals.Bad.TheVariants.{NotANumber, TooManyDecimals, OutOfRange}

-- the decimal point
abbrev pub is_point : ℕ → Bool
is_point b = b == 46

-- the digits before the point
abbrev pub whole_part : List ℕ → List ℕ
whole_part text = before_first is_point (without_leading_sign text)

-- the digits after the point, none where there is no point
abbrev pub fraction_part : List ℕ → List ℕ
fraction_part text = after_first is_point (without_leading_sign text)

-- there is a digit, and nothing but digits besides the sign and one point
abbrev pub is_decimal : List ℕ → Bool
is_decimal text = list_all is_ascii_digit (whole_part text ++ fraction_part text)
    && nat_lt 0 (length (whole_part text ++ fraction_part text))

-- how many millionths the digits stand for, of which at most six are decimals
abbrev pub millionths : List ℕ → ℕ
millionths text = digits_value 10 (whole_part text ++ fraction_part text) * 10 ^ (6 - length (fraction_part text))

-- a number of millionths with the sign of the text
abbrev pub with_sign_of : List ℕ → ℕ → ℤ
with_sign_of text n = if starts_with_minus text then neg_ℤ (pos n) else pos n

-- what a text is read as: millionths, or the first of the three faults that it has
abbrev pub decimal_of : List ℕ → Result ℤ Bad
decimal_of text =
    if not (is_decimal text) then Err NotANumber
    else (if nat_lt 6 (length (fraction_part text)) then Err TooManyDecimals
    else (if nat_lt most_stated (millionths text) then Err OutOfRange
    else Ok (with_sign_of text (millionths text))))
