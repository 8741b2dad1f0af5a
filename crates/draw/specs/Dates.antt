-- The dates that are told below the frames: round ones, so many that their texts stand apart.
use Rattle.std.specs.Prelude.{ℕ, Bool, true, ◌||◌, if◌then◌else◌, nat_eq, List, [], ◌++◌, codes, Option, None, Some, nat_le, ℤ, pos, ◌+ℤ◌, ◌-ℤ◌, unsigned_abs}
use Rattle.std.specs.List.{ends_with}
use Rattle.civil_days.specs.Starts.{day_start_of}
use Rattle.civil_days.specs.Texts.{day_text}
use Rattle.drawings.specs.Axes.{place}
use Rattle.drawings.specs.declared.axes.Axis.{Axis}
use Rattle.fixed_units.specs.Quantities.{first_day}
use Rattle.draw.specs.Elements.{label, path_around, upright_text}
use Rattle.draw.specs.Frames.{first_texts}

-- whether a date is told on an axis of so many seconds: each of up to 12 days, each fourth of up to 24, the 1st, 11th and 21st of up
-- to 90, then the first of each month, of each quarter, of each year, of each fifth and of each twentieth year
abbrev pub ends_by : List ℕ → List ℕ → Bool
ends_by date end = ends_with nat_eq date end

abbrev pub is_fourth : List ℕ → Bool
is_fourth date =
    ends_by date (codes "01") || (ends_by date (codes "05") || (ends_by date (codes "09") || (ends_by date (codes "13")
    || (ends_by date (codes "17") || (ends_by date (codes "21") || ends_by date (codes "25"))))))

abbrev pub is_tenth : List ℕ → Bool
is_tenth date = ends_by date (codes "01") || (ends_by date (codes "11") || ends_by date (codes "21"))

abbrev pub is_quarter : List ℕ → Bool
is_quarter date =
    ends_by date (codes "-01-01") || (ends_by date (codes "-04-01") || (ends_by date (codes "-07-01") || ends_by date (codes "-10-01")))

abbrev pub is_twentieth : List ℕ → Bool
is_twentieth date =
    ends_by date (codes "00-01-01") || (ends_by date (codes "20-01-01") || (ends_by date (codes "40-01-01")
    || (ends_by date (codes "60-01-01") || ends_by date (codes "80-01-01"))))

unfoldable pub is_told : ℕ → List ℕ → Bool
is_told seconds date =
    if nat_le seconds 1_036_800 then true
    else (if nat_le seconds 2_073_600 then is_fourth date
    else (if nat_le seconds 7_776_000 then is_tenth date
    else (if nat_le seconds 25_920_000 then ends_by date (codes "-01")
    else (if nat_le seconds 77_760_000 then is_quarter date
    else (if nat_le seconds 302_400_000 then ends_by date (codes "-01-01")
    else (if nat_le seconds 1_512_000_000 then ends_by date (codes "0-01-01") || ends_by date (codes "5-01-01")
    else is_twentieth date))))))

-- a line over both frames, and the date below them
unfoldable pub date_line : ℕ → List ℕ
date_line x = path_around (codes "grid") (upright_text x 84 364 ++ upright_text x 400 680)

unfoldable pub date_told : ℕ → List ℕ → List ℕ
date_told x date = date_line x ++ label (codes "under") x 700 date

unfoldable pub date_at : ℕ → ℕ → List ℕ → List ℕ
date_at seconds x date = if is_told seconds date then date_told x date else []

unfoldable pub date_on : ℕ → ℤ → Option ℕ → List ℕ
date_on seconds day None = []
date_on seconds day (Some x) = date_at seconds x (day_text day)

-- how long an axis of time is
abbrev pub seconds_of : Axis → ℕ
seconds_of times = unsigned_abs (times.greatest -ℤ times.least)

-- of a day that begins on an axis of time
unfoldable pub date_text : List ℕ → Axis → ℤ → List ℕ
date_text zone times day = date_on (seconds_of times) day (place times (day_start_of zone day))

-- all days of the calendar in turn
unfoldable pub dates_text : List ℕ → Axis → List ℕ
dates_text zone times = first_texts (λ k. date_text zone times (first_day +ℤ pos k)) 73_049
