-- Rounding arrays: how many significant figures a value keeps, by its magnitude (ADAPS; the tenth digit and the figure 0
-- are this project's choice).
use Rattle.std.specs.Prelude.{◌≡◌, ℕ, ◌-◌, ◌≤◌, true, min, max, List, length, slice_index, codes}
use Rattle.std.specs.List.{list_all}
use Rattle.std.specs.Char.{is_ascii_digit}

-- the number that a digit of an array writes, counted from 0
abbrev pub digit_at : List ℕ → ℕ → ℕ
digit_at array place = slice_index array place - 48

-- the most decimals that a value has: the tenth digit
abbrev pub most_decimals : List ℕ → ℕ
most_decimals array = digit_at array 9

-- ten digits, the tenth of 0 to 6
pub record IsRoundingArray (array : List ℕ) : Type 0 where
  pub ten : length array ≡ 10
  pub digits : list_all is_ascii_digit array ≡ true
  pub decimals : most_decimals array ≤ 6

-- the significant figures of a magnitude whose whole millionths have so many digits: one entry for all below 0.01, one each
-- below 0.1, 1, 10, 100, 1,000, 10,000 and 100,000, and the ninth from there on
abbrev pub figures : List ℕ → ℕ → ℕ
figures array digits = digit_at array (min 8 (digits - 4))

-- how many of the last of these digits are rounded off: those behind the significant figures, or those behind the most decimals
-- where they are more
abbrev pub rounded_off : List ℕ → ℕ → ℕ
rounded_off array digits = max (6 - most_decimals array) (digits - figures array digits)

-- the usual array of stages: nine figures, at most two decimals
abbrev pub stage_array : List ℕ
stage_array = codes "9999999992"
