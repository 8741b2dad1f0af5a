-- How days and instants are spelled: `YYYY-MM-DD` and `YYYY-MM-DDThh:mm:ssZ`.
use Rattle.std.specs.Prelude.{ℕ, zero, suc, ◌+◌, ◌/◌, ◌%◌, List, [], ◌∷◌, ◌++◌, codes, ℤ, pos, ◌-ℤ◌, int_le, unsigned_abs, if◌then◌else◌}
use Rattle.std.specs.Int.{int_div_euclid, int_rem_euclid}
use Rattle.jiff_core.specs.Calendar.{days_from_civil}
use Rattle.jiff_tz.specs.Year.{year_of_day}

-- the last of the first n months of a year that has begun on a day
unfoldable pub month_begun : ℤ → ℕ → ℤ → ℕ
month_begun year zero day = 0
month_begun year (suc n) day = if int_le (days_from_civil year (suc n) 1) day then suc n else month_begun year n day

-- the month of a day, and its number in the month
abbrev pub month_of_day : ℤ → ℕ
month_of_day day = month_begun (year_of_day day) 12 day

abbrev pub day_of_month : ℤ → ℕ
day_of_month day = unsigned_abs (day -ℤ days_from_civil (year_of_day day) (month_of_day day) 1) + 1

-- the two digits of a number below 100
abbrev pub pair_text : ℕ → List ℕ
pair_text n = (48 + n / 10) ∷ (48 + n % 10) ∷ []

-- a date of those parts, and a second of a day
abbrev pub date_text : ℕ → ℕ → ℕ → List ℕ
date_text year month day =
    pair_text (year / 100) ++ pair_text (year % 100) ++ codes "-" ++ pair_text month ++ codes "-" ++ pair_text day

abbrev pub clock_text : ℕ → List ℕ
clock_text second =
    codes "T" ++ pair_text (second / 3600) ++ codes ":" ++ pair_text (second / 60 % 60) ++ codes ":" ++ pair_text (second % 60)
    ++ codes "Z"

-- a day
unfoldable pub day_text : ℤ → List ℕ
day_text day = date_text (unsigned_abs (year_of_day day)) (month_of_day day) (day_of_month day)

-- an instant
unfoldable pub instant_text : ℤ → List ℕ
instant_text at = day_text (int_div_euclid at (pos 86_400)) ++ clock_text (unsigned_abs (int_rem_euclid at (pos 86_400)))
