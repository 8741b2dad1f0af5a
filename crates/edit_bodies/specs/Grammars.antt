-- The grammars of members: what a value states, or nothing where it is ill formed.
use Rattle.std.specs.Prelude.{ℕ, bytes_eq, codes, is_none, is_some, Bool, true, ◌&&◌, nat_le, List, [], ◌∷◌, length, int_le, int_lt, ℤ, pos, ◌+ℤ◌, Option, Some, None, option_map, option_and_then, if◌then◌else◌}
use Rattle.std.specs.Result.{result_ok}
use Rattle.civil_days.specs.Spelling.{day_of_text, stamp_of_text, only}
use Rattle.curves.specs.Curve.{curve_of}
use Rattle.edit_bodies.specs.Texts.{are_initials, is_reference, is_name, is_comment, is_array}
use Rattle.edit_bodies.specs.Zones.{is_zone}
use Rattle.edits.specs.Lawful.{most_readings, most_reviewed_days}
use Rattle.edits.specs.declared.decisions.Decision.{Decision}
use Rattle.edits.specs.declared.decisions.Decision.TheVariants.{Approve, Rescind}
use Rattle.fixed_units.specs.Decimals.{decimal_of}
use Rattle.edits.specs.declared.measurements.Grade.{Grade}
use Rattle.edits.specs.declared.measurements.Grade.TheVariants.{Excellent, Good, Fair, Poor}
use Rattle.editions.specs.Covers.{most_least_cover}
use Rattle.fixed_units.specs.Quantities.{SiteNumber, is_amount, is_discharge, is_stage, most_gap, most_rating_number}
use Rattle.fixed_units.specs.declared.readings.Flag.{Flag}
use Rattle.fixed_units.specs.declared.readings.Flag.TheVariants.{Usable, Erroneous, Affected}
use Rattle.fixed_units.specs.declared.readings.Reading.{Reading}
use Rattle.rating_tables.specs.Table.{table_fault}
use Rattle.serde_json.specs.Data.{Data, Items, no_items, item}
use Rattle.serde_json.specs.Find.{as_str, as_number, as_u64, as_array, as_null}
use Rattle.site_texts.specs.SiteText.{site_of_text}

-- what is there, if it passes
abbrev pub kept_if : {A : Type 0} → (A → Bool) → A → Option A
kept_if test value = if test value then Some value else None

-- a string that is read so
abbrev pub string_of : {A : Type 0} → (List ℕ → Option A) → Data → Option A
string_of read value = option_and_then read (as_str value)

-- who makes an edit, under which reference, of which station
abbrev pub by_of : Data → Option (List ℕ)
by_of value = string_of (kept_if are_initials) value

abbrev pub reference_of : Data → Option (List ℕ)
reference_of value = string_of (kept_if is_reference) value

abbrev pub site_of : Data → Option SiteNumber
site_of value = string_of site_of_text value

-- why an edit is made
abbrev pub comment_of : Data → Option (List ℕ)
comment_of value = string_of (kept_if is_comment) value

-- what a station is called, and its zone
abbrev pub name_of : Data → Option (List ℕ)
name_of value = string_of (kept_if is_name) value

abbrev pub zone_of : Data → Option (List ℕ)
zone_of value = string_of (kept_if (λ text. is_name text && is_zone text)) value

-- a whole number, and one from the least to the greatest of a range
abbrev pub whole_of : Data → Option ℕ
whole_of value = option_and_then as_u64 (as_number value)

abbrev pub kept_within : ℕ → ℕ → ℕ → Option ℕ
kept_within least greatest n = kept_if (λ k. nat_le least k && nat_le k greatest) n

-- a gap tolerance in minutes
abbrev pub gap_of : Data → Option ℕ
gap_of value = option_and_then (kept_within 1 most_gap) (whole_of value)

-- a rounding array
abbrev pub array_of : Data → Option (List ℕ)
array_of value = string_of (kept_if is_array) value

-- the number of a correction set
abbrev pub set_of : Data → Option ℕ
set_of value = option_and_then (kept_within 1 3) (whole_of value)

-- an instant that is a stamp
abbrev pub instant_of : Data → Option ℤ
instant_of value = string_of stamp_of_text value

-- a quantity, and those that are a stage or an amount, in millionths of a foot
abbrev pub quantity_of : Data → Option ℤ
quantity_of value = string_of (λ text. result_ok (decimal_of text)) value

abbrev pub stage_of : Data → Option ℤ
stage_of value = only is_stage (quantity_of value)

abbrev pub amount_of : Data → Option ℤ
amount_of value = only is_amount (quantity_of value)

-- what is read of each item, if it is read of all
abbrev pub each_of : {A : Type 0} → (Data → Option A) → Items → Option (List A)
each_of read no_items = Some []
each_of read (item value rest) = option_and_then (λ x. option_map (λ xs. x ∷ xs) (each_of read rest)) (read value)

-- the flag of a reading
abbrev pub flag_of_text : List ℕ → Option Flag
flag_of_text text =
    if bytes_eq text (codes "ok") then Some Usable
    else (if bytes_eq text (codes "erroneous") then Some Erroneous
    else (if bytes_eq text (codes "affected") then Some Affected
    else None))

abbrev pub flag_of : Data → Option Flag
flag_of value = string_of flag_of_text value

-- a reading of that stage at that instant with that flag, if each is there
abbrev pub flagged_of : Option ℤ → Option ℤ → Option Flag → Option Reading
flagged_of None raw flag = None
flagged_of (Some at) None flag = None
flagged_of (Some at) (Some raw) None = None
flagged_of (Some at) (Some raw) (Some flag) = Some (record { at = at; raw = raw; flag = flag })

-- the reading of a row: an instant, a stage and a flag, and nothing else; without a flag it is usable
abbrev pub reading_of_row : Items → Option Reading
reading_of_row no_items = None
reading_of_row (item at no_items) = None
reading_of_row (item at (item raw no_items)) = flagged_of (instant_of at) (stage_of raw) (Some Usable)
reading_of_row (item at (item raw (item flag no_items))) = flagged_of (instant_of at) (stage_of raw) (flag_of flag)
reading_of_row (item at (item raw (item flag (item more rest)))) = None

abbrev pub reading_of : Data → Option Reading
reading_of value = option_and_then reading_of_row (as_array value)

-- each reading is before the next
abbrev pub are_rising : List Reading → Bool
are_rising [] = true
are_rising (reading ∷ []) = true
are_rising (reading ∷ (next ∷ rest)) = int_lt reading.at next.at && are_rising (next ∷ rest)

-- readings that rise by instant, as many as one edit puts
abbrev pub are_put : List Reading → Bool
are_put readings = nat_le 1 (length readings) && nat_le (length readings) most_readings && are_rising readings

abbrev pub readings_of : Data → Option (List Reading)
readings_of value = option_and_then (kept_if are_put) (option_and_then (each_of reading_of) (as_array value))

-- two numbers that are both there
abbrev pub pair_of : Option ℤ → Option ℤ → Option (ℤ × ℤ)
pair_of None second = None
pair_of (Some first) None = None
pair_of (Some first) (Some second) = Some (first, second)

-- what is read of two items, and nothing else
abbrev pub pair_in : (Data → Option ℤ) → (Data → Option ℤ) → Items → Option (ℤ × ℤ)
pair_in read_first read_second no_items = None
pair_in read_first read_second (item first no_items) = None
pair_in read_first read_second (item first (item second no_items)) = pair_of (read_first first) (read_second second)
pair_in read_first read_second (item first (item second (item more rest))) = None

-- the point of a row: a stage and an amount
abbrev pub point_of : Data → Option (ℤ × ℤ)
point_of value = option_and_then (pair_in stage_of amount_of) (as_array value)

-- points that are a curve: one to three of them, whose stages strictly rise
abbrev pub curve_if : List (ℤ × ℤ) → Option (List (ℤ × ℤ))
curve_if points = result_ok (curve_of points)

abbrev pub points_of : Data → Option (List (ℤ × ℤ))
points_of value = option_and_then curve_if (option_and_then (each_of point_of) (as_array value))

-- the number of a rating
abbrev pub rating_number_of : Data → Option ℕ
rating_number_of value = option_and_then (kept_within 1 most_rating_number) (whole_of value)

-- a discharge in millionths of a cubic foot per second
abbrev pub discharge_of : Data → Option ℤ
discharge_of value = only is_discharge (quantity_of value)

-- the row of a rating: a stage and its discharge
abbrev pub rating_row_of : Data → Option (ℤ × ℤ)
rating_row_of value = option_and_then (pair_in stage_of discharge_of) (as_array value)

-- rows that are a table: as many as one has, and in order
abbrev pub table_if : List (ℤ × ℤ) → Option (List (ℤ × ℤ))
table_if rows = kept_if (λ rows. is_none (table_fault rows)) rows

abbrev pub table_of : Data → Option (List (ℤ × ℤ))
table_of value = option_and_then table_if (option_and_then (each_of rating_row_of) (as_array value))

-- the end of a period that begins at an instant: a stamp after it, or none
abbrev pub until_of : ℤ → Data → Option (Option ℤ)
until_of from value = if is_some (as_null value) then Some None else option_map Some (only (int_lt from) (instant_of value))

-- the last instant of a span that begins at an instant: a stamp that is not before it
abbrev pub to_of : ℤ → Data → Option ℤ
to_of from value = only (int_le from) (instant_of value)

-- a day of the calendar
abbrev pub day_of : Data → Option ℤ
day_of value = string_of day_of_text value

-- the last day of a span that begins at a day: not before it, and not too many days on
abbrev pub is_last_day : ℤ → ℤ → Bool
is_last_day from to = int_le from to && int_lt to (from +ℤ pos most_reviewed_days)

abbrev pub last_day_of : ℤ → Data → Option ℤ
last_day_of from value = only (is_last_day from) (day_of value)

-- what is decided on the days of a span
abbrev pub decision_of_text : List ℕ → Option Decision
decision_of_text text =
    if bytes_eq text (codes "approve") then Some Approve
    else (if bytes_eq text (codes "rescind") then Some Rescind
    else None)

abbrev pub decision_of : Data → Option Decision
decision_of value = string_of decision_of_text value

-- the least cover of an edition: minutes, or none
abbrev pub least_of : Data → Option (Option ℕ)
least_of value = if is_some (as_null value) then Some None else option_map Some (option_and_then (kept_within 1 most_least_cover) (whole_of value))

-- the number of a measurement
abbrev pub measurement_number_of : Data → Option ℕ
measurement_number_of value = option_and_then (kept_within 1 4_294_967_295) (whole_of value)

-- the grade of a measurement
abbrev pub grade_of_text : List ℕ → Option Grade
grade_of_text text =
    if bytes_eq text (codes "excellent") then Some Excellent
    else (if bytes_eq text (codes "good") then Some Good
    else (if bytes_eq text (codes "fair") then Some Fair
    else (if bytes_eq text (codes "poor") then Some Poor
    else None)))

abbrev pub grade_of : Data → Option Grade
grade_of value = string_of grade_of_text value
