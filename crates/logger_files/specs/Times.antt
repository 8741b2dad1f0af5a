-- When a row was read: what a text writes by a pattern of a date and a time, and the clock that told it.
use Rattle.std.specs.Prelude.{ℕ, ◌+◌, ◌-◌, ◌*◌, ◌%◌, ◌==◌, ◌&&◌, ◌||◌, nat_le, nat_lt, Bool, true, false, ℤ, ◌-ℤ◌, List, [], ◌∷◌, Option, None, Some, option_and_then, if◌then◌else◌}
use Rattle.std.specs.Char.{is_ascii_digit}
use Rattle.fixed_units.specs.Quantities.{is_stamp}
use Rattle.civil_days.specs.Spelling.{clock_of, date_number, moment_of, only}

-- the letters of a pattern in place of which digits stand: Y, M, D, h, m and s
abbrev pub is_number_letter : ℕ → Bool
is_number_letter letter =
    (letter == 89) || ((letter == 77) || ((letter == 68) || ((letter == 104) || ((letter == 109) || (letter == 115)))))

-- what may stand in place of a byte of a pattern: a digit for those letters, A or P for `a`, M for `p`, and any other byte for itself
abbrev pub stands_for : ℕ → ℕ → Bool
stands_for letter b =
    if is_number_letter letter then is_ascii_digit b
    else (if letter == 97 then (b == 65) || (b == 80)
    else (if letter == 112 then b == 77 else letter == b))

-- a text has what the pattern has, byte by byte
unfoldable pub is_formed : List ℕ → List ℕ → Bool
is_formed [] [] = true
is_formed [] (b ∷ text) = false
is_formed (letter ∷ pattern) [] = false
is_formed (letter ∷ pattern) (b ∷ text) = stands_for letter b && is_formed pattern text

-- a number of at most three digits with another digit behind it where the pattern has the letter, and the same number elsewhere
abbrev pub next_number : ℕ → ℕ → ℕ → ℕ → Option ℕ
next_number before letter it b =
    if it == letter then (if nat_le before 999 && is_ascii_digit b then Some (before * 10 + (b - 48)) else None) else Some before

-- the number whose digits stand where the pattern has a letter, behind those of another, if it has four digits at most
unfoldable pub number_behind : ℕ → ℕ → List ℕ → List ℕ → Option ℕ
number_behind before letter [] text = Some before
number_behind before letter (it ∷ pattern) [] = Some before
number_behind before letter (it ∷ pattern) (b ∷ text) =
    option_and_then (λ number. number_behind number letter pattern text) (next_number before letter it b)

abbrev pub number_at : ℕ → List ℕ → List ℕ → Option ℕ
number_at letter pattern text = number_behind 0 letter pattern text

-- the byte that stands where the pattern has `a`, if it has one
unfoldable pub half_at : List ℕ → List ℕ → Option ℕ
half_at [] text = None
half_at (it ∷ pattern) [] = None
half_at (it ∷ pattern) (b ∷ text) = if it == 97 then Some b else half_at pattern text

-- a year below 100 is one from 2000 on
abbrev pub year_of : ℕ → ℕ
year_of year = if nat_lt year 100 then 2000 + year else year

-- the date of three numbers, if there is such a date
abbrev pub date_of : Option ℕ → Option ℕ → Option ℕ → Option ℤ
date_of None month day = None
date_of (Some year) None day = None
date_of (Some year) (Some month) None = None
date_of (Some year) (Some month) (Some day) =
    if nat_le month 12 && nat_le day 31 then date_number (year_of year) month day else None

-- the hour of the day: of 24, or of 12 before noon and 12 behind it
abbrev pub hour_of : Option ℕ → ℕ → Option ℕ
hour_of None hour = Some hour
hour_of (Some half) hour =
    if nat_le 1 hour && nat_le hour 12 then Some (if half == 80 then hour % 12 + 12 else hour % 12) else None

abbrev pub hour_from : Option ℕ → Option ℕ → Option ℕ
hour_from half None = None
hour_from half (Some hour) = hour_of half hour

-- the local time that a text writes by a pattern, counted as if it were told by UTC
abbrev pub local_time : List ℕ → List ℕ → Option ℤ
local_time pattern text =
    if is_formed pattern text
    then moment_of (date_of (number_at 89 pattern text) (number_at 77 pattern text) (number_at 68 pattern text))
    (clock_of (hour_from (half_at pattern text) (number_at 104 pattern text)) (number_at 109 pattern text) (number_at 115 pattern text))
    else None

-- the stamp of a local time by a clock that is so many seconds east of UTC
abbrev pub stamp_by : ℤ → Option ℤ → Option ℤ
stamp_by clock None = None
stamp_by clock (Some local) = only is_stamp (Some (local -ℤ clock))
