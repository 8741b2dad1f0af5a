-- Parsing a payload from left to right: each reader gives a value and the bytes after it, or nothing.
use Rattle.std.specs.Prelude.{ℕ, zero, suc, Bool, true, false, List, [], ◌∷◌, length, take, drop, map, slice_index, Option, Some, None, unwrap_or, nat_lt, nat_le, ◌==◌, ◌&&◌, if◌then◌else◌, ℤ}
use Rattle.std.specs.Int.{Width, w32, w64, byte_len, from_le_bytes, cast_signed}
use Rattle.edits.specs.declared.content.What.{What}
use Rattle.edits.specs.declared.content.What.TheVariants.{AddStation, SetStation, PutReadings, DropReadings, FlagReadings, PutCorrection, DropCorrection, PutShift, DropShift, AddRating, PutPeriod, DropPeriod, PutEstimate, DropEstimate, PutMeasurement, DropMeasurement, Review, Decide, SetEdition}
use Rattle.edits.specs.Decisions.{decision_of}
use Rattle.edits.specs.Grades.{grade_of}
use Rattle.edits.specs.Kinds.{kind_numbered}
use Rattle.edits.specs.declared.kinds.Kind.{Kind}
use Rattle.edits.specs.declared.kinds.Kind.TheVariants as kinds
use Rattle.edits.specs.declared.decisions.Decision.{Decision}
use Rattle.edits.specs.declared.measurements.Grade.{Grade}
use Rattle.fixed_units.specs.Quantities.{SiteNumber}
use Rattle.fixed_units.specs.declared.readings.Flag.{Flag}
use Rattle.fixed_units.specs.declared.readings.Flag.TheVariants.{Usable, Erroneous, Affected}
use Rattle.fixed_units.specs.declared.readings.Reading.{Reading}
use Rattle.rating_tables.specs.Table.{Row}
use Rattle.records.specs.Sheets.{most_sheet_bytes}
use Rattle.records.specs.declared.formats.Format.{Format}
use Rattle.records.specs.declared.formats.Format.TheVariants.{First, Second}

-- the parts of a payload as they stand, whatever their ranges, and the bytes behind them
pub record Parts : Type 0 where
  pub by : List ℕ
  pub reference : List ℕ
  pub site : SiteNumber
  pub comment : List ℕ
  pub what : What
  pub behind : List ℕ

infixl 10 ◌>>=◌
abbrev pub ◌>>=◌ : {A B : Type 0} → Option A → (A → Option B) → Option B
(Some x) >>= f = f x
None >>= f = None

-- one reader behind another
abbrev pub both_at : {A B : Type 0} → (List ℕ → Option (A × List ℕ)) → (List ℕ → Option (B × List ℕ)) → List ℕ → Option ((A × B) × List ℕ)
both_at first second bytes = first bytes >>= λ a. second a.1 >>= λ b. Some ((a.0, b.0), b.1)

-- what is made of the value that is read
abbrev pub made_at : {A B : Type 0} → (A → B) → (List ℕ → Option (A × List ℕ)) → List ℕ → Option (B × List ℕ)
made_at made read bytes = read bytes >>= λ a. Some (made a.0, a.1)

unfoldable pub byte_at : List ℕ → Option (ℕ × List ℕ)
byte_at [] = None
byte_at (byte ∷ rest) = Some (byte, rest)

abbrev pub number_at : Width → List ℕ → Option (ℕ × List ℕ)
number_at w bytes = if nat_lt (length bytes) (byte_len w) then None else Some (from_le_bytes w (take (byte_len w) bytes), drop (byte_len w) bytes)

-- so many bytes
abbrev pub front_at : ℕ → List ℕ → Option (List ℕ × List ℕ)
front_at count bytes = if nat_lt (length bytes) count then None else Some (take count bytes, drop count bytes)

unfoldable pub short_text_at : List ℕ → Option (List ℕ × List ℕ)
short_text_at bytes = byte_at bytes >>= λ n. front_at n.0 n.1

unfoldable pub signed_number_at : List ℕ → Option (ℤ × List ℕ)
signed_number_at bytes = number_at w64 bytes >>= λ n. Some (cast_signed w64 n.0, n.1)

unfoldable pub day_at : List ℕ → Option (ℤ × List ℕ)
day_at bytes = number_at w32 bytes >>= λ n. Some (cast_signed w32 n.0, n.1)

unfoldable pub site_number_at : List ℕ → Option (SiteNumber × List ℕ)
site_number_at bytes = made_at (λ s. record { digits = s.0; value = s.1 }) (both_at byte_at (number_at w64)) bytes

-- who makes an edit, under which reference, of which station
unfoldable pub sender_at : List ℕ → Option ((List ℕ × (List ℕ × SiteNumber)) × List ℕ)
sender_at bytes = both_at short_text_at (both_at short_text_at site_number_at) bytes

-- why an edit was made: the first format does not say it
abbrev pub comment_at : Format → List ℕ → Option (List ℕ × List ℕ)
comment_at First bytes = Some ([], bytes)
comment_at Second bytes = short_text_at bytes

-- a gap tolerance and two rounding arrays
unfoldable pub arrays_at : List ℕ → Option ((ℕ × (List ℕ × List ℕ)) × List ℕ)
arrays_at bytes = both_at (number_at w32) (both_at (front_at 10) (front_at 10)) bytes

-- the fields of a station that is added
abbrev pub addition : List ℕ × (List ℕ × (ℕ × (List ℕ × List ℕ))) → What
addition f = AddStation f.0 f.1.0 f.1.1.0 f.1.1.1.0 f.1.1.1.1

unfoldable pub addition_at : List ℕ → Option (What × List ℕ)
addition_at bytes = made_at addition (both_at short_text_at (both_at short_text_at arrays_at)) bytes

-- the fields of a station that is set
abbrev pub setting : List ℕ × (ℕ × (List ℕ × List ℕ)) → What
setting f = SetStation f.0 f.1.0 f.1.1.0 f.1.1.1

unfoldable pub setting_at : List ℕ → Option (What × List ℕ)
setting_at bytes = made_at setting (both_at short_text_at arrays_at) bytes

-- so many values, one behind another
unfoldable pub many_at : {A : Type 0} → (List ℕ → Option (A × List ℕ)) → ℕ → List ℕ → Option (List A × List ℕ)
many_at read zero bytes = Some ([], bytes)
many_at read (suc count) bytes = do
  first ← read bytes
  others ← many_at read count first.1
  Some (first.0 ∷ others.0, others.1)

-- the flag of a number
abbrev pub flag_of : ℕ → Option Flag
flag_of number =
    if number == 0 then Some Usable
    else (if number == 1 then Some Erroneous
    else (if number == 2 then Some Affected else None))

unfoldable pub flag_at : List ℕ → Option (Flag × List ℕ)
flag_at bytes = do
  number ← byte_at bytes
  flag ← flag_of number.0
  Some (flag, number.1)

-- a reading: its instant, its stage and its flag
abbrev pub reading : ℤ × (ℤ × Flag) → Reading
reading f = record { at = f.0; raw = f.1.0; flag = f.1.1 }

unfoldable pub reading_at : List ℕ → Option (Reading × List ℕ)
reading_at bytes = made_at reading (both_at signed_number_at (both_at signed_number_at flag_at)) bytes

-- how many readings there are, and the readings
unfoldable pub readings_at : List ℕ → Option (List Reading × List ℕ)
readings_at bytes = number_at w32 bytes >>= λ count. many_at reading_at count.0 count.1

-- the number of 64 bits that eight bytes are
abbrev pub number_in : List ℕ → ℤ
number_in piece = cast_signed w64 (from_le_bytes w64 piece)

-- The reading that seventeen bytes are, and the readings that pieces of seventeen bytes are. Only pieces whose last byte is the
-- number of a flag are lent, so the flag that stands here for any other number is never read.
abbrev pub flag_in : List ℕ → Flag
flag_in piece = unwrap_or (flag_of (slice_index piece 16)) Affected

unfoldable pub reading_in : List ℕ → Reading
reading_in piece =
    record { at = number_in (take 8 piece); raw = number_in (take 8 (drop 8 piece)); flag = flag_in piece }

abbrev pub readings_in : List (List ℕ) → List Reading
readings_in pieces = map reading_in pieces

-- the fields of readings that are put
abbrev pub put : List Reading → What
put readings = PutReadings readings

unfoldable pub put_at : List ℕ → Option (What × List ℕ)
put_at bytes = made_at put readings_at bytes

-- the fields of a span of readings that is dropped, and of one that is flagged
abbrev pub dropped_readings : ℤ × ℤ → What
dropped_readings f = DropReadings f.0 f.1

unfoldable pub dropped_readings_at : List ℕ → Option (What × List ℕ)
dropped_readings_at bytes = made_at dropped_readings (both_at signed_number_at signed_number_at) bytes

abbrev pub flagged_readings : ℤ × (ℤ × Flag) → What
flagged_readings f = FlagReadings f.0 f.1.0 f.1.1

unfoldable pub flagged_readings_at : List ℕ → Option (What × List ℕ)
flagged_readings_at bytes = made_at flagged_readings (both_at signed_number_at (both_at signed_number_at flag_at)) bytes

-- so many points of a curve, each a stage and an amount
unfoldable pub point_at : List ℕ → Option ((ℤ × ℤ) × List ℕ)
point_at bytes = both_at signed_number_at signed_number_at bytes

abbrev pub points_at : ℕ → List ℕ → Option (List (ℤ × ℤ) × List ℕ)
points_at count bytes = many_at point_at count bytes

-- a curve: how many points there are, at most three, and the points
unfoldable pub curve_at : List ℕ → Option (List (ℤ × ℤ) × List ℕ)
curve_at bytes = byte_at bytes >>= λ count. if nat_le count.0 3 then points_at count.0 count.1 else None

-- whether an entry prorates
unfoldable pub mark_at : List ℕ → Option (Bool × List ℕ)
mark_at bytes = do
  mark ← byte_at bytes
  if mark.0 == 0 then Some (false, mark.1) else (if mark.0 == 1 then Some (true, mark.1) else None)

-- an entry: its instant, its curve, and whether it prorates
unfoldable pub entry_at : List ℕ → Option ((ℤ × (List (ℤ × ℤ) × Bool)) × List ℕ)
entry_at bytes = both_at signed_number_at (both_at curve_at mark_at) bytes

-- the fields of an entry that is put into a correction set, and of one that is dropped
abbrev pub correction : ℕ × (ℤ × (List (ℤ × ℤ) × Bool)) → What
correction f = PutCorrection f.0 f.1.0 f.1.1.0 f.1.1.1

unfoldable pub correction_at : List ℕ → Option (What × List ℕ)
correction_at bytes = made_at correction (both_at byte_at entry_at) bytes

abbrev pub dropped_correction : ℕ × ℤ → What
dropped_correction f = DropCorrection f.0 f.1

unfoldable pub dropped_correction_at : List ℕ → Option (What × List ℕ)
dropped_correction_at bytes = made_at dropped_correction (both_at byte_at signed_number_at) bytes

-- the fields of an entry that is put into the shifts, and of one that is dropped
abbrev pub shift : ℤ × (List (ℤ × ℤ) × Bool) → What
shift f = PutShift f.0 f.1.0 f.1.1

unfoldable pub shift_at : List ℕ → Option (What × List ℕ)
shift_at bytes = made_at shift entry_at bytes

abbrev pub dropped_shift : ℤ → What
dropped_shift at = DropShift at

unfoldable pub dropped_shift_at : List ℕ → Option (What × List ℕ)
dropped_shift_at bytes = made_at dropped_shift signed_number_at bytes

-- a rating table: how many rows there are, and the rows
unfoldable pub table_at : List ℕ → Option (List Row × List ℕ)
table_at bytes = number_at w32 bytes >>= λ count. points_at count.0 count.1

-- the row that sixteen bytes are, and the rows that pieces of sixteen bytes are
unfoldable pub row_in : List ℕ → Row
row_in piece = (number_in (take 8 piece), number_in (take 8 (drop 8 piece)))

abbrev pub rows_in : List (List ℕ) → List Row
rows_in pieces = map row_in pieces

-- the fields of a rating that is added
abbrev pub added_rating : ℕ × List Row → What
added_rating f = AddRating f.0 f.1

unfoldable pub rating_at : List ℕ → Option (What × List ℕ)
rating_at bytes = made_at added_rating (both_at (number_at w32) table_at) bytes

-- what may lack, behind a mark that says whether it is there
abbrev pub optional_at : {A : Type 0} → (List ℕ → Option (A × List ℕ)) → List ℕ → Option (Option A × List ℕ)
optional_at read bytes = mark_at bytes >>= λ there. if there.0 then made_at Some read there.1 else Some (None, there.1)

-- the end of a period, where it has one
unfoldable pub end_at : List ℕ → Option (Option ℤ × List ℕ)
end_at bytes = optional_at signed_number_at bytes

-- the fields of a period that is put, and of one that is dropped
abbrev pub period : ℕ × (ℤ × Option ℤ) → What
period f = PutPeriod (record { from = f.1.0; until = f.1.1; rating = f.0 })

unfoldable pub period_at : List ℕ → Option (What × List ℕ)
period_at bytes = made_at period (both_at (number_at w32) (both_at signed_number_at end_at)) bytes

abbrev pub dropped_period : ℤ → What
dropped_period from = DropPeriod from

unfoldable pub dropped_period_at : List ℕ → Option (What × List ℕ)
dropped_period_at bytes = made_at dropped_period signed_number_at bytes

-- the fields of an estimate that is put, and of one that is dropped
abbrev pub estimate : ℤ × ℤ → What
estimate f = PutEstimate (record { day = f.0; discharge = f.1 })

unfoldable pub estimate_at : List ℕ → Option (What × List ℕ)
estimate_at bytes = made_at estimate (both_at day_at signed_number_at) bytes

abbrev pub dropped_estimate : ℤ → What
dropped_estimate day = DropEstimate day

unfoldable pub dropped_estimate_at : List ℕ → Option (What × List ℕ)
dropped_estimate_at bytes = made_at dropped_estimate day_at bytes

-- how good a measurement is
unfoldable pub grade_at : List ℕ → Option (Grade × List ℕ)
grade_at bytes = do
  number ← byte_at bytes
  grade ← grade_of number.0
  Some (grade, number.1)

-- the fields of a measurement that is put, and of one that is dropped
abbrev pub measurement : ℕ × (ℤ × (ℤ × (ℤ × Grade))) → What
measurement f =
    PutMeasurement (record { number = f.0; at = f.1.0; gage = f.1.1.0; discharge = f.1.1.1.0; grade = f.1.1.1.1 })

unfoldable pub measurement_at : List ℕ → Option (What × List ℕ)
measurement_at bytes =
    made_at measurement (both_at (number_at w32) (both_at signed_number_at (both_at signed_number_at (both_at signed_number_at grade_at)))) bytes

abbrev pub dropped_measurement : ℕ → What
dropped_measurement number = DropMeasurement number

unfoldable pub dropped_measurement_at : List ℕ → Option (What × List ℕ)
dropped_measurement_at bytes = made_at dropped_measurement (number_at w32) bytes

-- the fields of a review
abbrev pub review : ℤ × ℤ → What
review f = Review f.0 f.1

unfoldable pub review_at : List ℕ → Option (What × List ℕ)
review_at bytes = made_at review (both_at day_at day_at) bytes

-- what is decided
unfoldable pub decision_at : List ℕ → Option (Decision × List ℕ)
decision_at bytes = do
  number ← byte_at bytes
  decision ← decision_of number.0
  Some (decision, number.1)

-- the fields of a decision
abbrev pub decided : ℤ × (ℤ × Decision) → What
decided f = Decide f.0 f.1.0 f.1.1

unfoldable pub decided_at : List ℕ → Option (What × List ℕ)
decided_at bytes = made_at decided (both_at day_at (both_at day_at decision_at)) bytes

-- the least cover of an edition, where it has one
unfoldable pub least_at : List ℕ → Option (Option ℕ × List ℕ)
least_at bytes = optional_at (number_at w32) bytes

-- the fields of an edition
abbrev pub edition : ℤ × Option ℕ → What
edition f = SetEdition f.0 f.1

unfoldable pub edition_at : List ℕ → Option (What × List ℕ)
edition_at bytes = made_at edition (both_at day_at least_at) bytes

-- a sheet: its length, and so many bytes
unfoldable pub sheet_at : List ℕ → Option (List ℕ × List ℕ)
sheet_at bytes = do
  count ← number_at w32 bytes
  if nat_le 1 count.0 && nat_le count.0 most_sheet_bytes then front_at count.0 count.1 else None

-- the fields of a kind, and those of the kind of a number
unfoldable pub fields_of : Kind → List ℕ → Option (What × List ℕ)
fields_of kinds.AddStation bytes = addition_at bytes
fields_of kinds.SetStation bytes = setting_at bytes
fields_of kinds.PutReadings bytes = put_at bytes
fields_of kinds.DropReadings bytes = dropped_readings_at bytes
fields_of kinds.FlagReadings bytes = flagged_readings_at bytes
fields_of kinds.PutCorrection bytes = correction_at bytes
fields_of kinds.DropCorrection bytes = dropped_correction_at bytes
fields_of kinds.PutShift bytes = shift_at bytes
fields_of kinds.DropShift bytes = dropped_shift_at bytes
fields_of kinds.AddRating bytes = rating_at bytes
fields_of kinds.PutPeriod bytes = period_at bytes
fields_of kinds.DropPeriod bytes = dropped_period_at bytes
fields_of kinds.PutEstimate bytes = estimate_at bytes
fields_of kinds.DropEstimate bytes = dropped_estimate_at bytes
fields_of kinds.PutMeasurement bytes = measurement_at bytes
fields_of kinds.DropMeasurement bytes = dropped_measurement_at bytes
fields_of kinds.Review bytes = review_at bytes
fields_of kinds.Decide bytes = decided_at bytes
fields_of kinds.SetEdition bytes = edition_at bytes

unfoldable pub fields_at : ℕ → List ℕ → Option (What × List ℕ)
fields_at number bytes = kind_numbered number >>= λ kind. fields_of kind bytes

-- the parts of a payload in a format, and what stands behind them
unfoldable pub parts_at : Format → List ℕ → Option Parts
parts_at format bytes = do
  kind ← byte_at bytes
  sender ← sender_at kind.1
  comment ← comment_at format sender.1
  what ← fields_at kind.0 comment.1
  Some (record { by = sender.0.0; reference = sender.0.1.0; site = sender.0.1.1; comment = comment.0; what = what.0; behind = what.1 })
