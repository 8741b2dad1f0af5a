-- When a row of unit values was read: a local date and time, and the zone that tells it.
use Rattle.std.specs.Prelude.{ℕ, ◌==◌, ◌&&◌, ℤ, pos, neg_ℤ, ◌-ℤ◌, ◌*ℤ◌, List, [], ◌∷◌, length, slice_index, take, codes, Option, None, Some, if◌then◌else◌}
use Rattle.std.specs.Str.{bytes_eq}
use Rattle.fixed_units.specs.Quantities.{is_stamp}
use Rattle.civil_days.specs.Spelling.{clock_of, day_of_text, moment_of, only}
use Rattle.civil_days.specs.Starts.{two_digits}

-- the zones of the USGS, and the hours that each is east of UTC
abbrev pub zones : List (List ℕ × ℤ)
zones =
    (codes "EST", neg_ℤ (pos 5)) ∷ (codes "EDT", neg_ℤ (pos 4)) ∷ (codes "CST", neg_ℤ (pos 6)) ∷ (codes "CDT", neg_ℤ (pos 5))
    ∷ (codes "MST", neg_ℤ (pos 7)) ∷ (codes "MDT", neg_ℤ (pos 6)) ∷ (codes "PST", neg_ℤ (pos 8)) ∷ (codes "PDT", neg_ℤ (pos 7))
    ∷ (codes "AKST", neg_ℤ (pos 9)) ∷ (codes "AKDT", neg_ℤ (pos 8)) ∷ (codes "HST", neg_ℤ (pos 10)) ∷ (codes "UTC", pos 0) ∷ []

-- the hours of a zone, if it is one of these
abbrev pub hours_of : List (List ℕ × ℤ) → List ℕ → Option ℤ
hours_of [] text = None
hours_of (zone ∷ zones) text = if bytes_eq text zone.0 then Some zone.1 else hours_of zones text

-- the second of the day that ` HH:MM` behind a date writes
abbrev pub clock_behind : List ℕ → Option ℕ
clock_behind text =
    if (slice_index text 10 == 32) && (slice_index text 13 == 58)
    then clock_of (two_digits text 11) (two_digits text 14) (Some 0) else None

-- the local time that a text `YYYY-MM-DD HH:MM` writes, counted as if it were told by UTC. Its date is a day of the calendar:
-- by none of the zones is a time of another day a stamp
abbrev pub local_time : List ℕ → Option ℤ
local_time text = if length text == 16 then moment_of (day_of_text (take 10 text)) (clock_behind text) else None

-- the stamp of a local time of a zone: the local time less the hours that the zone is east of UTC
abbrev pub stamp_by : ℤ → Option ℤ → Option ℤ
stamp_by hours None = None
stamp_by hours (Some local) = only is_stamp (Some (local -ℤ hours *ℤ pos 3600))
