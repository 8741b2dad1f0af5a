-- What a target's parameters state.
use Rattle.std.specs.Prelude.{ℕ, ℤ, pos, ◌-ℤ◌, int_le, int_lt, Bool, ◌&&◌, nat_le, List, length, codes, Option, Some, None, option_and_then, if◌then◌else◌}
use Rattle.std.specs.List.{list_all}
use Rattle.std.specs.Char.{is_ascii_digit}
use Rattle.std.specs.Str.Parse.{digits_value}
use Rattle.matchit.specs.Params.{named}
use Rattle.civil_days.specs.Spelling.{day_of_text}
use Rattle.edit_bodies.specs.Grammars.{kept_if, kept_within}
use Rattle.edit_bodies.specs.Texts.{are_initials, is_reference}
use Rattle.fixed_units.specs.Quantities.{SiteNumber, most_rating_number}
use Rattle.site_texts.specs.SiteText.{site_of_text}

-- what the parameters of a target took: the name of each with its part of the target
abbrev pub Parameters : Type 0
Parameters = List (List ℕ × List ℕ)

-- 1 to 9 digits, of which the first may be zeros
abbrev pub is_number : List ℕ → Bool
is_number text = nat_le 1 (length text) && (nat_le (length text) 9 && list_all is_ascii_digit text)

-- the number that they state
abbrev pub number_of : List ℕ → Option ℕ
number_of text = if is_number text then Some (digits_value 10 text) else None

-- a number of turns, 1 to 1,000
abbrev pub turns_of : ℕ → Option ℕ
turns_of count = if nat_le 1 count && nat_le count 1_000 then Some count else None

abbrev pub count_of : List ℕ → Option ℕ
count_of text = option_and_then turns_of (number_of text)

-- the number of a rating, and that of a measurement
abbrev pub rating_of : List ℕ → Option ℕ
rating_of text = option_and_then (kept_within 1 most_rating_number) (number_of text)

abbrev pub measurement_of : List ℕ → Option ℕ
measurement_of text = option_and_then (kept_within 1 999_999_999) (number_of text)

-- how many turns are asked for, which site, and which day
abbrev pub count_in : Parameters → Option ℕ
count_in taken = option_and_then count_of (named (codes "count") taken)

abbrev pub site_in : Parameters → Option SiteNumber
site_in taken = option_and_then site_of_text (named (codes "site") taken)

abbrev pub day_in : Parameters → Option ℤ
day_in taken = option_and_then day_of_text (named (codes "day") taken)

-- the first and the last day of a daily table, which has 366 days at most
abbrev pub from_in : Parameters → Option ℤ
from_in taken = option_and_then day_of_text (named (codes "from") taken)

abbrev pub to_in : Parameters → Option ℤ
to_in taken = option_and_then day_of_text (named (codes "to") taken)

abbrev pub is_table_span : ℤ → ℤ → Bool
is_table_span from to = int_le from to && int_lt (to -ℤ from) (pos 366)

-- which rating is added, by whom and under which reference
abbrev pub rating_in : Parameters → Option ℕ
rating_in taken = option_and_then rating_of (named (codes "rating") taken)

abbrev pub by_in : Parameters → Option (List ℕ)
by_in taken = option_and_then (kept_if are_initials) (named (codes "by") taken)

abbrev pub reference_in : Parameters → Option (List ℕ)
reference_in taken = option_and_then (kept_if is_reference) (named (codes "ref") taken)

-- which measurement
abbrev pub measurement_in : Parameters → Option ℕ
measurement_in taken = option_and_then measurement_of (named (codes "number") taken)

-- which edit; a number that no edit has is one too
abbrev pub edit_number_in : Parameters → Option ℕ
edit_number_in taken = option_and_then number_of (named (codes "number") taken)
