-- Published values: the nearest value that has the places which a rounding array gives a magnitude, half away from zero.
use Rattle.std.specs.Prelude.{◌≡◌, ◌≢◌, ℕ, ◌+◌, ◌-◌, ◌*◌, ◌/◌, ◌^◌, ◌<◌, ◌≤◌, ◌==◌, ◌&&◌, not, min, if◌then◌else◌, List, length, ℤ, pos, unsigned_abs, ◌*ℤ◌, decimal, int_div}
use Rattle.fixed_units.specs.Rounding.{IsRounded, round}
use Rattle.fixed_units.specs.RoundingArray.{most_decimals, figures, rounded_off}
use Rattle.fixed_units.specs.declared.published.Published.{Published}

-- the whole millionths of the magnitude num / den have so many digits: one where it is below ten millionths, be it 0
pub record HasDigits (num den digits : ℕ) : Type 0 where
  pub one : 1 ≤ digits
  pub from : 1 < digits → den * 10 ^ (digits - 1) ≤ num
  pub below : num < den * 10 ^ digits

-- how many of the last millionths' digits the printed value leaves out. Where rounding brought a digit more, from 9.96 to 10,
-- they are those that this magnitude leaves out, unless its figure is 0
abbrev pub left_out : List ℕ → ℕ → ℕ → ℕ
left_out array digits rounded =
    if rounded == 10 ^ digits && not (figures array (digits + 1) == 0)
    then rounded_off array (digits + 1) else rounded_off array digits

-- the nearest whole number of tens, hundreds and so on of millionths, and its places: 6 less the digits left out, at least 0
pub record IsNearest (array : List ℕ) (digits : ℕ) (num den : ℤ) (v : Published) : Type 0 where
  pub multiple : ℤ
  pub nearest : IsRounded num (den *ℤ pos (10 ^ rounded_off array digits)) multiple
  pub places : v.places ≡ 6 - left_out array digits (unsigned_abs multiple * 10 ^ rounded_off array digits)
  pub value : v.units *ℤ pos (10 ^ (6 - v.places)) ≡ multiple *ℤ pos (10 ^ rounded_off array digits)

-- v is the published value of num / den millionths: the figure of the magnitude says what is rounded off, and the figure 0
-- makes it 0 with the most decimals
pub record IsPublished (array : List ℕ) (num den : ℤ) (v : Published) : Type 0 where
  pub digits : ℕ
  pub counted : HasDigits (unsigned_abs num) (unsigned_abs den) digits
  pub none : figures array digits ≡ 0 → v ≡ record { units = pos 0; places = most_decimals array }
  pub some : figures array digits ≢ 0 → IsNearest array digits num den v

-- how many digits the whole millionths of a magnitude have
abbrev pub whole_digits : ℤ → ℤ → ℕ
whole_digits num den = length (decimal (unsigned_abs num / unsigned_abs den))

-- num / den to the nearest multiple of 10^off
abbrev pub round_off : ℕ → ℤ → ℤ → ℤ
round_off off num den = round num (den *ℤ pos (10 ^ off)) *ℤ pos (10 ^ off)

-- millionths without the last digits, of which at most six stand behind the point
abbrev pub shown : ℕ → ℤ → Published
shown left millionths = record { units = int_div millionths (pos (10 ^ min left 6)); places = 6 - left }

-- the published value of a magnitude of so many digits
abbrev pub published_digits : List ℕ → ℕ → ℤ → ℤ → Published
published_digits array digits num den =
    let rounded = round_off (rounded_off array digits) num den in
    if figures array digits == 0 then record { units = pos 0; places = most_decimals array }
    else shown (left_out array digits (unsigned_abs rounded)) rounded

-- that value, for num of at most 10^17 times den, which is above 0; the laws beside `publish` say that it is published, and the
-- only one
unfoldable pub published : List ℕ → ℤ → ℤ → Published
published array num den = published_digits array (whole_digits num den) num den
