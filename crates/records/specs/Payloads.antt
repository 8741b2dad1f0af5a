-- The bytes of a record, one spelling for each. Numbers stand with their lowest byte first.
use Rattle.std.specs.Prelude.{◌≡◌, ℕ, Bool, true, false, List, [], ◌∷◌, ◌++◌, length, flat_map, Option, Some, None, ℤ}
use Rattle.std.specs.Int.{w32, w64, to_le_bytes, cast_unsigned}
use Rattle.edits.specs.Decisions.{decision_number}
use Rattle.edits.specs.Grades.{grade_number}
use Rattle.edits.specs.Kinds.{kind_number, kind_of}
use Rattle.edits.specs.Texts.{AreInitials, IsComment, IsReference}
use Rattle.edits.specs.declared.content.Edit.{Edit}
use Rattle.edits.specs.declared.content.What.{What}
use Rattle.edits.specs.declared.content.What.TheVariants.{AddStation, SetStation, PutReadings, DropReadings, FlagReadings, PutCorrection, DropCorrection, PutShift, DropShift, AddRating, PutPeriod, DropPeriod, PutEstimate, DropEstimate, PutMeasurement, DropMeasurement, Review, Decide, SetEdition}
use Rattle.edits.specs.declared.estimates.Estimate.{Estimate}
use Rattle.edits.specs.declared.measurements.Measurement.{Measurement}
use Rattle.fixed_units.specs.Quantities.{SiteNumber, IsSite}
use Rattle.fixed_units.specs.declared.readings.Flag.{Flag}
use Rattle.fixed_units.specs.declared.readings.Flag.TheVariants.{Usable, Erroneous, Affected}
use Rattle.fixed_units.specs.declared.readings.Reading.{Reading}
use Rattle.rating_tables.specs.Table.{Row}
use Rattle.ratings.specs.Spans.{Span}
use Rattle.records.specs.Sheets.{AreSheetsOf, Record}
use Rattle.records.specs.declared.formats.Format.{Format}
use Rattle.records.specs.declared.formats.Format.TheVariants.{First, Second}

-- a byte of length, and that many bytes
abbrev pub short_text : List ℕ → List ℕ
short_text bytes = length bytes ∷ bytes

-- a number below 0 stands as its two's complement
abbrev pub signed_number : ℤ → List ℕ
signed_number n = to_le_bytes w64 (cast_unsigned w64 n)

abbrev pub site_number : SiteNumber → List ℕ
site_number site = site.digits ∷ to_le_bytes w64 site.value

-- a day stands in four bytes, one before 1970 as its two's complement
abbrev pub day_number : ℤ → List ℕ
day_number day = to_le_bytes w32 (cast_unsigned w32 day)

-- a reading: its instant, its stage and its flag
abbrev pub flag_number : Flag → ℕ
flag_number Usable = 0
flag_number Erroneous = 1
flag_number Affected = 2

abbrev pub reading_bytes : Reading → List ℕ
reading_bytes reading = signed_number reading.at ++ (signed_number reading.raw ++ flag_number reading.flag ∷ [])

-- a curve: how many points it has, and each with its stage and its amount
abbrev pub point_bytes : ℤ × ℤ → List ℕ
point_bytes point = signed_number point.0 ++ signed_number point.1

abbrev pub curve_bytes : List (ℤ × ℤ) → List ℕ
curve_bytes points = length points ∷ flat_map point_bytes points

-- an entry of a correction set or of the shifts: its instant, its curve, and whether it prorates
abbrev pub mark_number : Bool → ℕ
mark_number false = 0
mark_number true = 1

abbrev pub entry_bytes : ℤ → List (ℤ × ℤ) → Bool → List ℕ
entry_bytes at curve prorate = signed_number at ++ curve_bytes curve ++ mark_number prorate ∷ []

-- a rating table: how many rows it has, and each, as a point of a curve, with its stage and its discharge
abbrev pub table_bytes : List Row → List ℕ
table_bytes rows = to_le_bytes w32 (length rows) ++ flat_map point_bytes rows

-- what may lack: whether it is there, and itself where it is
abbrev pub optional_bytes : {A : Type 0} → (A → List ℕ) → Option A → List ℕ
optional_bytes bytes None = mark_number false ∷ []
optional_bytes bytes (Some x) = mark_number true ∷ bytes x

-- a period: the number of its rating, its start, whether it ends, and its end where it does
abbrev pub end_bytes : Option ℤ → List ℕ
end_bytes until = optional_bytes signed_number until

abbrev pub period_bytes : Span → List ℕ
period_bytes p = to_le_bytes w32 p.rating ++ (signed_number p.from ++ end_bytes p.until)

-- an estimate: its day and its discharge
abbrev pub estimate_bytes : Estimate → List ℕ
estimate_bytes estimate = day_number estimate.day ++ signed_number estimate.discharge

-- a measurement: its number, its instant, its gage height, its discharge and its grade
abbrev pub measurement_bytes : Measurement → List ℕ
measurement_bytes m =
    to_le_bytes w32 m.number ++ (signed_number m.at ++ (signed_number m.gage ++ (signed_number m.discharge ++ grade_number m.grade ∷ [])))

-- an edition: its day, whether it has a least cover, and that in minutes where it has
abbrev pub least_bytes : Option ℕ → List ℕ
least_bytes least = optional_bytes (to_le_bytes w32) least

-- the kind of an edit
abbrev pub kind : What → ℕ
kind what = kind_number (kind_of what)

-- the fields of each kind
abbrev pub fields : What → List ℕ
fields (AddStation name zone gap stage_array discharge_array) =
    short_text name ++ short_text zone ++ to_le_bytes w32 gap ++ stage_array ++ discharge_array
fields (SetStation name gap stage_array discharge_array) =
    short_text name ++ to_le_bytes w32 gap ++ stage_array ++ discharge_array
fields (PutReadings readings) = to_le_bytes w32 (length readings) ++ flat_map reading_bytes readings
fields (DropReadings from to) = signed_number from ++ signed_number to
fields (FlagReadings from to flag) = signed_number from ++ (signed_number to ++ flag_number flag ∷ [])
fields (PutCorrection set at curve prorate) = set ∷ entry_bytes at curve prorate
fields (DropCorrection set at) = set ∷ signed_number at
fields (PutShift at curve prorate) = entry_bytes at curve prorate
fields (DropShift at) = signed_number at
fields (AddRating rating table) = to_le_bytes w32 rating ++ table_bytes table
fields (PutPeriod period) = period_bytes period
fields (DropPeriod from) = signed_number from
fields (PutEstimate estimate) = estimate_bytes estimate
fields (DropEstimate day) = day_number day
fields (PutMeasurement measurement) = measurement_bytes measurement
fields (DropMeasurement number) = to_le_bytes w32 number
fields (Review from to) = day_number from ++ day_number to
fields (Decide from to decision) = day_number from ++ (day_number to ++ decision_number decision ∷ [])
fields (SetEdition day least) = day_number day ++ least_bytes least

-- a comment: the first format has none
abbrev pub comment_bytes : Format → List ℕ → List ℕ
comment_bytes First comment = []
comment_bytes Second comment = short_text comment

-- a format holds a comment: the first only where it is empty
abbrev pub Holds : Format → List ℕ → Type 0
Holds First comment = comment ≡ []
Holds Second comment = Unit {0}

-- an edit in a format: its kind, who makes it, under which reference, of which station, why, and the fields of its kind
abbrev pub edit_bytes : Format → Edit → List ℕ
edit_bytes format edit =
    kind edit.what ∷ short_text edit.by ++ short_text edit.reference ++ site_number edit.site ++ comment_bytes format edit.comment ++ fields edit.what

-- a sheet: its length in four bytes, and its bytes
abbrev pub sheet_bytes : List ℕ → List ℕ
sheet_bytes sheet = to_le_bytes w32 (length sheet) ++ sheet

-- a payload in a format: the edit, and behind it the sheets of an approval
abbrev pub payload : Format → Record → List ℕ
payload format piece = edit_bytes format piece.edit ++ flat_map sheet_bytes piece.sheets

-- a payload has at most so many bytes
abbrev pub most_payload : ℕ
most_payload = 8_388_608

-- the most that the fields and a whole payload have: those of 100,000 readings, with the longest comment
abbrev pub longest_fields : ℕ
longest_fields = 1_700_004

abbrev pub longest_payload : ℕ
longest_payload = 1_700_265

-- the length of the payload in four bytes, and the payload
abbrev pub encoded : Format → Record → List ℕ
encoded format piece = to_le_bytes w32 (length (payload format piece)) ++ payload format piece

-- a record as it is added to a journal: with a closed gate behind it
abbrev pub closed_gate : ℕ
closed_gate = 0

abbrev pub encoded_and_closed : Format → Record → List ℕ
encoded_and_closed format piece = encoded format piece ++ closed_gate ∷ []

-- a record in the grammar of a format: each part of its edit keeps to its range, the format holds its comment, what it changes is lawful,
-- as with every edit, and the record has the sheets that it has to have
pub record IsInGrammar (format : Format) (piece : Record) : Type 0 where
  pub initials : AreInitials piece.edit.by
  pub code : IsReference piece.edit.reference
  pub station : IsSite piece.edit.site
  pub comment : IsComment piece.edit.comment
  pub holds : Holds format piece.edit.comment
  pub sheets : AreSheetsOf piece.edit.what piece.sheets
