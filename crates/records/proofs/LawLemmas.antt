-- The laws of the spelling: lengths, bytes, and that no record begins another.
use Rattle.std.proofs.Common.{◌≡◌, ℕ, ◌+◌, ◌^◌, ◌<◌, ◌≤◌, ◌%◌, ◌/◌, List, true, ◌||◌, get_or, [], ◌∷◌, ◌++◌, length, take, drop, Option, Some, refl, sym, ap, subst, ◌∙◌, length-append, arith, w64}
use Rattle.std.specs.Prelude.{◌↔◌, ℤ, Bool, false, All, ◌==◌, flat_map}
use Rattle.std.specs.Int.{w32, to_le_bytes, cast_unsigned}
use Rattle.std.specs.List.{list_all}
use Rattle.std.specs.Char.{is_ascii_digit}
use Rattle.std.proofs.lemmas.Bool.Decides.{nat_tests}
use Rattle.std.proofs.lemmas.List.{take_at, drop_at}
use Rattle.std.proofs.lemmas.List.Concat.{flat_map-cons}
use Rattle.std.proofs.lemmas.List.Sums.{AllPass-from_list_all}
use Rattle.std.proofs.lemmas.List.Elements.{All-nil, All-cons, All-append, All-head, All-tail}
use Rattle.edits.specs.Decisions.{decision_number}
use Rattle.edits.specs.Grades.{grade_number}
use Rattle.edits.specs.Lawful.{IsLawful}
use Rattle.edits.specs.Texts.{is_letter, is_digit, is_printed, AreInitials, IsComment, IsReference, IsName}
use Rattle.edits.specs.declared.content.What.{What}
use Rattle.edits.specs.declared.content.What.TheVariants.{AddStation, SetStation, PutReadings, DropReadings, FlagReadings, PutCorrection, DropCorrection, PutShift, DropShift, AddRating, PutPeriod, DropPeriod, PutEstimate, DropEstimate, PutMeasurement, DropMeasurement, Review, Decide, SetEdition}
use Rattle.edits.specs.declared.decisions.Decision.TheVariants.{Approve}
use Rattle.edits.specs.declared.measurements.Measurement.{Measurement}
use Rattle.fixed_units.specs.Quantities.{SiteNumber, IsSite}
use Rattle.fixed_units.specs.RoundingArray.{IsRoundingArray}
use Rattle.fixed_units.specs.declared.readings.Flag.{Flag}
use Rattle.fixed_units.specs.declared.readings.Flag.TheVariants.{Usable, Erroneous, Affected}
use Rattle.fixed_units.specs.declared.readings.Reading.{Reading}
use Rattle.records.specs.declared.formats.Format.{Format}
use Rattle.records.specs.declared.formats.Format.TheVariants.{First, Second}
use Rattle.records.specs.Payloads.{short_text, comment_bytes, signed_number, site_number, flag_number, reading_bytes, point_bytes, curve_bytes, mark_number, entry_bytes, table_bytes, end_bytes, day_number, least_bytes, measurement_bytes, kind, fields, edit_bytes, sheet_bytes, longest_fields, longest_payload, payload, encoded, IsInGrammar}
use Rattle.records.specs.Parsing.{number_at}
use Rattle.records.specs.Sheets.{AreSheetsOf}
use Rattle.records.specs.Sheets.{Record}
use Rattle.records.proofs.Fields.{some_is, wide32, number_again}
use Rattle.records.proofs.CurveLemmas.{length-entry}
use Rattle.records.proofs.EditionLemmas.{least_within}
use Rattle.records.proofs.MeasurementLemmas.{grade_byte, length-measurement}
use Rattle.records.proofs.OptionalLemmas.{optional_is_bytes}
use Rattle.records.proofs.PutLemmas.{length-readings}
use Rattle.records.proofs.RatingLemmas.{length-table, period_within}
use Rattle.records.proofs.Records.{one_record}
use Rattle.records.proofs.ReviewLemmas.{decision_byte}
use Rattle.records.proofs.SheetLemmas.{few_sheets, length-sheets}

-- ---- lengths

few_fields : (what : What) → IsLawful what → length (fields what) ≤ longest_fields
few_fields (AddStation name zone gap stages discharges) law =
    let set = law.0 in
    let a = length-append (short_text name) (short_text zone) in
    let b = length-append (short_text name ++ short_text zone) (to_le_bytes w32 gap) in
    let c = length-append (short_text name ++ short_text zone ++ to_le_bytes w32 gap) stages in
    let d = length-append (short_text name ++ short_text zone ++ to_le_bytes w32 gap ++ stages) discharges in
    omega (arith, a, b, c, d, set.named.longest, law.1.printed.longest, set.stages.ten, set.discharges.ten)
few_fields (SetStation name gap stages discharges) set =
    let a = length-append (short_text name) (to_le_bytes w32 gap) in
    let b = length-append (short_text name ++ to_le_bytes w32 gap) stages in
    let c = length-append (short_text name ++ to_le_bytes w32 gap ++ stages) discharges in
    omega (arith, a, b, c, set.named.longest, set.stages.ten, set.discharges.ten)
few_fields (PutReadings readings) are =
    let a = length-append (to_le_bytes w32 (length readings)) (flat_map reading_bytes readings) in
    omega (arith, a, length-readings readings, are.most)
few_fields (PutCorrection set at curve prorate) law = omega (arith, length-entry at curve prorate, law.2.most)
few_fields (PutShift at curve prorate) law = omega (arith, length-entry at curve prorate, law.1.most)
few_fields (AddRating rating table) law =
    omega (arith, length-table table, length-append (to_le_bytes w32 rating) (table_bytes table), law.1.table.most)
few_fields (PutPeriod period) law = omega (arith, period_within period)
few_fields (PutMeasurement m) law = omega (arith, length-measurement m)
few_fields (SetEdition day least) law = omega (arith, least_within least)
few_fields _ law = omega arith

-- the fields and the sheets behind them
few_behind : (what : What) (sheets : List (List ℕ)) → IsLawful what → AreSheetsOf what sheets → length (fields what) + length (flat_map sheet_bytes sheets) ≤ longest_fields
few_behind (Decide from to Approve) sheets law are =
    omega (arith, length-sheets sheets are.each, few_sheets (Decide from to Approve) sheets law are)
few_behind what sheets law none =
    omega (arith, few_fields what law, ap (λ (s : List (List ℕ)). length (flat_map sheet_bytes s)) none)

few_of_comment : (format : Format) (comment : List ℕ) → IsComment comment → length (comment_bytes format comment) ≤ 201
few_of_comment First comment is = omega arith
few_of_comment Second comment is = omega (arith, is.longest)

-- a record of the one format has a payload within the bound in the other one too
pub few_bytes_as : (format : Format) (other : Format) (piece : Record) → IsInGrammar other piece → length (payload format piece) ≤ longest_payload
few_bytes_as format other piece g =
    let e = piece.edit in
    let front = short_text e.by ++ short_text e.reference ++ site_number e.site in
    let a = length-append (short_text e.by) (short_text e.reference) in
    let b = length-append (short_text e.by ++ short_text e.reference) (site_number e.site) in
    let c = length-append front (comment_bytes format e.comment) in
    let d = length-append (front ++ comment_bytes format e.comment) (fields e.what) in
    let s = length-append (edit_bytes format e) (flat_map sheet_bytes piece.sheets) in
    omega (arith, a, b, c, d, s, few_of_comment format e.comment g.comment, few_behind e.what piece.sheets e.lawful g.sheets, g.initials.longest, g.code.longest)

pub few_bytes : (format : Format) (piece : Record) → IsInGrammar format piece → length (payload format piece) ≤ longest_payload
few_bytes format piece g = few_bytes_as format format piece g

-- ---- bytes

abbrev is_byte : ℕ → Type 0
is_byte b = b < 256

four : (a b c d : ℕ) → a < 256 → b < 256 → c < 256 → d < 256 → All is_byte (a ∷ b ∷ c ∷ d ∷ [])
four a b c d i j k l =
    All-cons is_byte a (b ∷ c ∷ d ∷ []) i (All-cons is_byte b (c ∷ d ∷ []) j (All-cons is_byte c (d ∷ []) k (All-cons is_byte d [] l (All-nil is_byte))))

low_byte : (n : ℕ) → n % 256 < 256
low_byte n = omega arith

bytes_32 : (n : ℕ) → All is_byte (to_le_bytes w32 n)
bytes_32 n = four _ _ _ _ (low_byte n) (low_byte (n / 2 ^ 8)) (low_byte (n / 2 ^ 16)) (low_byte (n / 2 ^ 24))

bytes_64 : (n : ℕ) → All is_byte (to_le_bytes w64 n)
bytes_64 n =
    All-append is_byte (n % 256 ∷ n / 2 ^ 8 % 256 ∷ n / 2 ^ 16 % 256 ∷ n / 2 ^ 24 % 256 ∷ []) (n / 2 ^ 32 % 256 ∷ n / 2 ^ 40 % 256 ∷ n / 2 ^ 48 % 256 ∷ n / 2 ^ 56 % 256 ∷ [])
    (four _ _ _ _ (low_byte n) (low_byte (n / 2 ^ 8)) (low_byte (n / 2 ^ 16)) (low_byte (n / 2 ^ 24)))
    (four _ _ _ _ (low_byte (n / 2 ^ 32)) (low_byte (n / 2 ^ 40)) (low_byte (n / 2 ^ 48)) (low_byte (n / 2 ^ 56)))

letter_byte : (code : ℕ) → is_letter code ≡ true → code < 256
letter_byte code e = grind (arith, nat_tests)

code_byte : (code : ℕ) → (is_letter code || (is_digit code || (code == 45))) ≡ true → code < 256
code_byte code e = grind (arith, nat_tests)

printed_byte : (code : ℕ) → is_printed code ≡ true → code < 256
printed_byte code e = grind (arith, nat_tests)

by_bytes : (text : List ℕ) → AreInitials text → All is_byte (short_text text)
by_bytes text is = All-cons is_byte (length text) text (omega (arith, is.longest)) (λ k d lt. letter_byte (get_or text k d) (is.letters k d lt))

reference_bytes : (text : List ℕ) → IsReference text → All is_byte (short_text text)
reference_bytes text is = All-cons is_byte (length text) text (omega (arith, is.longest)) (λ k d lt. code_byte (get_or text k d) (is.codes k d lt))

name_bytes : (text : List ℕ) → IsName text → All is_byte (short_text text)
name_bytes text is = All-cons is_byte (length text) text (omega (arith, is.longest)) (λ k d lt. printed_byte (get_or text k d) (is.codes k d lt))

comment_is_bytes : (format : Format) (text : List ℕ) → IsComment text → All is_byte (comment_bytes format text)
comment_is_bytes First text is = All-nil is_byte
comment_is_bytes Second text is = All-cons is_byte (length text) text (omega (arith, is.longest)) (λ k d lt. printed_byte (get_or text k d) (is.codes k d lt))

site_bytes : (site : SiteNumber) → IsSite site → All is_byte (site_number site)
site_bytes site is = All-cons is_byte site.digits (to_le_bytes w64 site.value) (omega (arith, is.longest)) (bytes_64 site.value)

digit_byte : (code : ℕ) → is_ascii_digit code ≡ true → code < 256
digit_byte code e = grind (arith, nat_tests)

digits_are_bytes : (digits : List ℕ) → list_all is_ascii_digit digits ≡ true → All is_byte digits
digits_are_bytes digits e = let pass = AllPass-from_list_all is_ascii_digit digits e in λ k d lt. digit_byte (get_or digits k d) (pass k d lt)

array_bytes : (digits : List ℕ) → IsRoundingArray digits → All is_byte digits
array_bytes digits is = digits_are_bytes digits is.digits

flag_byte : (flag : Flag) → flag_number flag < 256
flag_byte Usable = omega arith
flag_byte Erroneous = omega arith
flag_byte Affected = omega arith

flagged_are_bytes : (m n : ℤ) (flag : Flag) → All is_byte (signed_number m ++ (signed_number n ++ flag_number flag ∷ []))
flagged_are_bytes m n flag =
    All-append is_byte (signed_number m) (signed_number n ++ flag_number flag ∷ []) (bytes_64 (cast_unsigned w64 m))
    (All-append is_byte (signed_number n) (flag_number flag ∷ []) (bytes_64 (cast_unsigned w64 n)) (All-cons is_byte (flag_number flag) [] (flag_byte flag) (All-nil is_byte)))

readings_are_bytes : (readings : List Reading) → All is_byte (flat_map reading_bytes readings)
readings_are_bytes [] = All-nil is_byte
readings_are_bytes (r ∷ rest) =
    subst (λ (t : List ℕ). All is_byte t) (sym (flat_map-cons reading_bytes r rest))
    (All-append is_byte (reading_bytes r) (flat_map reading_bytes rest) (flagged_are_bytes r.at r.raw r.flag) (readings_are_bytes rest))

points_are_bytes : (points : List (ℤ × ℤ)) → All is_byte (flat_map point_bytes points)
points_are_bytes [] = All-nil is_byte
points_are_bytes (p ∷ points) =
    subst (λ (t : List ℕ). All is_byte t) (sym (flat_map-cons point_bytes p points))
    (All-append is_byte (point_bytes p) (flat_map point_bytes points)
    (All-append is_byte (signed_number p.0) (signed_number p.1) (bytes_64 (cast_unsigned w64 p.0)) (bytes_64 (cast_unsigned w64 p.1))) (points_are_bytes points))

mark_byte : (mark : Bool) → mark_number mark < 256
mark_byte false = omega arith
mark_byte true = omega arith

entry_is_bytes : (at : ℤ) (curve : List (ℤ × ℤ)) (prorate : Bool) → length curve ≤ 3 → All is_byte (entry_bytes at curve prorate)
entry_is_bytes at curve prorate few =
    All-append is_byte (signed_number at ++ curve_bytes curve) (mark_number prorate ∷ [])
    (All-append is_byte (signed_number at) (curve_bytes curve) (bytes_64 (cast_unsigned w64 at))
    (All-cons is_byte (length curve) (flat_map point_bytes curve) (omega (arith, few)) (points_are_bytes curve)))
    (All-cons is_byte (mark_number prorate) [] (mark_byte prorate) (All-nil is_byte))

measurement_is_bytes : (m : Measurement) → All is_byte (measurement_bytes m)
measurement_is_bytes m =
    let graded = All-append is_byte (signed_number m.discharge) (grade_number m.grade ∷ []) (bytes_64 (cast_unsigned w64 m.discharge)) (All-cons is_byte (grade_number m.grade) [] (grade_byte m.grade) (All-nil is_byte)) in
    let gaged = All-append is_byte (signed_number m.gage) (signed_number m.discharge ++ grade_number m.grade ∷ []) (bytes_64 (cast_unsigned w64 m.gage)) graded in
    let made = All-append is_byte (signed_number m.at) (signed_number m.gage ++ (signed_number m.discharge ++ grade_number m.grade ∷ [])) (bytes_64 (cast_unsigned w64 m.at)) gaged in
    All-append is_byte (to_le_bytes w32 m.number) (signed_number m.at ++ (signed_number m.gage ++ (signed_number m.discharge ++ grade_number m.grade ∷ []))) (bytes_32 m.number) made

fields_are_bytes : (what : What) → IsLawful what → All is_byte (fields what)
fields_are_bytes (AddStation name zone gap stages discharges) law =
    let set = law.0 in
    let a = All-append is_byte (short_text name) (short_text zone) (name_bytes name set.named) (name_bytes zone law.1.printed) in
    let b = All-append is_byte (short_text name ++ short_text zone) (to_le_bytes w32 gap) a (bytes_32 gap) in
    let c = All-append is_byte (short_text name ++ short_text zone ++ to_le_bytes w32 gap) stages b (array_bytes stages set.stages) in
    All-append is_byte (short_text name ++ short_text zone ++ to_le_bytes w32 gap ++ stages) discharges c (array_bytes discharges set.discharges)
fields_are_bytes (SetStation name gap stages discharges) set =
    let a = All-append is_byte (short_text name) (to_le_bytes w32 gap) (name_bytes name set.named) (bytes_32 gap) in
    let b = All-append is_byte (short_text name ++ to_le_bytes w32 gap) stages a (array_bytes stages set.stages) in
    All-append is_byte (short_text name ++ to_le_bytes w32 gap ++ stages) discharges b (array_bytes discharges set.discharges)
fields_are_bytes (PutReadings readings) are =
    All-append is_byte (to_le_bytes w32 (length readings)) (flat_map reading_bytes readings) (bytes_32 (length readings)) (readings_are_bytes readings)
fields_are_bytes (DropReadings from to) law =
    All-append is_byte (signed_number from) (signed_number to) (bytes_64 (cast_unsigned w64 from)) (bytes_64 (cast_unsigned w64 to))
fields_are_bytes (FlagReadings from to flag) law = flagged_are_bytes from to flag
fields_are_bytes (PutCorrection set at curve prorate) law =
    All-cons is_byte set (entry_bytes at curve prorate) (omega (arith, law.0.greatest)) (entry_is_bytes at curve prorate law.2.most)
fields_are_bytes (DropCorrection set at) law =
    All-cons is_byte set (signed_number at) (omega (arith, law.0.greatest)) (bytes_64 (cast_unsigned w64 at))
fields_are_bytes (PutShift at curve prorate) law = entry_is_bytes at curve prorate law.1.most
fields_are_bytes (DropShift at) law = bytes_64 (cast_unsigned w64 at)
fields_are_bytes (AddRating rating table) law =
    All-append is_byte (to_le_bytes w32 rating) (table_bytes table) (bytes_32 rating)
    (All-append is_byte (to_le_bytes w32 (length table)) (flat_map point_bytes table) (bytes_32 (length table)) (points_are_bytes table))
fields_are_bytes (PutPeriod p) law =
    All-append is_byte (to_le_bytes w32 p.rating) (signed_number p.from ++ end_bytes p.until) (bytes_32 p.rating)
    (All-append is_byte (signed_number p.from) (end_bytes p.until) (bytes_64 (cast_unsigned w64 p.from)) (optional_is_bytes signed_number (λ n. bytes_64 (cast_unsigned w64 n)) p.until))
fields_are_bytes (DropPeriod from) law = bytes_64 (cast_unsigned w64 from)
fields_are_bytes (PutEstimate estimate) law =
    All-append is_byte (day_number estimate.day) (signed_number estimate.discharge) (bytes_32 (cast_unsigned w32 estimate.day)) (bytes_64 (cast_unsigned w64 estimate.discharge))
fields_are_bytes (DropEstimate day) law = bytes_32 (cast_unsigned w32 day)
fields_are_bytes (PutMeasurement m) law = measurement_is_bytes m
fields_are_bytes (DropMeasurement number) law = bytes_32 number
fields_are_bytes (Review from to) law =
    All-append is_byte (day_number from) (day_number to) (bytes_32 (cast_unsigned w32 from)) (bytes_32 (cast_unsigned w32 to))
fields_are_bytes (Decide from to decision) law =
    All-append is_byte (day_number from) (day_number to ++ decision_number decision ∷ []) (bytes_32 (cast_unsigned w32 from))
    (All-append is_byte (day_number to) (decision_number decision ∷ []) (bytes_32 (cast_unsigned w32 to)) (All-cons is_byte (decision_number decision) [] (decision_byte decision) (All-nil is_byte)))
fields_are_bytes (SetEdition day least) law =
    All-append is_byte (day_number day) (least_bytes least) (bytes_32 (cast_unsigned w32 day)) (optional_is_bytes (to_le_bytes w32) bytes_32 least)

sheets_are_bytes : (sheets : List (List ℕ)) → All (All is_byte) sheets → All is_byte (flat_map sheet_bytes sheets)
sheets_are_bytes [] each = All-nil is_byte
sheets_are_bytes (sheet ∷ sheets) each =
    subst (λ (t : List ℕ). All is_byte t) (sym (flat_map-cons sheet_bytes sheet sheets))
    (All-append is_byte (sheet_bytes sheet) (flat_map sheet_bytes sheets)
    (All-append is_byte (to_le_bytes w32 (length sheet)) sheet (bytes_32 (length sheet)) (All-head (All is_byte) sheet sheets each))
    (sheets_are_bytes sheets (All-tail (All is_byte) sheet sheets each)))

kind_byte : (what : What) → kind what < 256
kind_byte (AddStation name zone gap stages discharges) = omega arith
kind_byte _ = omega arith

payload_bytes : (format : Format) (piece : Record) → IsInGrammar format piece → All (All is_byte) piece.sheets → All is_byte (payload format piece)
payload_bytes format piece g texts =
    let e = piece.edit in
    let first = All-cons is_byte (kind e.what) (short_text e.by) (kind_byte e.what) (by_bytes e.by g.initials) in
    let a = All-append is_byte (kind e.what ∷ short_text e.by) (short_text e.reference) first (reference_bytes e.reference g.code) in
    let b = All-append is_byte (kind e.what ∷ short_text e.by ++ short_text e.reference) (site_number e.site) a (site_bytes e.site g.station) in
    let c = All-append is_byte (kind e.what ∷ short_text e.by ++ short_text e.reference ++ site_number e.site) (comment_bytes format e.comment) b (comment_is_bytes format e.comment g.comment) in
    let d = All-append is_byte (kind e.what ∷ short_text e.by ++ short_text e.reference ++ site_number e.site ++ comment_bytes format e.comment) (fields e.what) c (fields_are_bytes e.what e.lawful) in
    All-append is_byte (edit_bytes format e) (flat_map sheet_bytes piece.sheets) d (sheets_are_bytes piece.sheets texts)

pub encoded_bytes : (format : Format) (piece : Record) → IsInGrammar format piece → All (All is_byte) piece.sheets → All is_byte (encoded format piece)
encoded_bytes format piece g texts =
    let bytes = payload format piece in
    All-append is_byte (to_le_bytes w32 (length bytes)) bytes (bytes_32 (length bytes)) (payload_bytes format piece g texts)

-- ---- what the formats hold

in_second : (piece : Record) → IsInGrammar First piece → IsInGrammar Second piece
in_second piece g =
    record { initials = g.initials; code = g.code; station = g.station; comment = g.comment; holds = tt; sheets = g.sheets }

in_first : (piece : Record) → IsInGrammar Second piece → piece.edit.comment ≡ [] → IsInGrammar First piece
in_first piece g empty =
    record { initials = g.initials; code = g.code; station = g.station; comment = g.comment; holds = empty; sheets = g.sheets }

pub formats_held : (piece : Record) → IsInGrammar First piece ↔ IsInGrammar Second piece × (piece.edit.comment ≡ [])
formats_held piece = (λ g. (in_second piece g, g.holds), λ both. in_first piece both.0 both.1)

-- ---- none begins another

abbrev read_pair : ℕ → List ℕ → Option (ℕ × List ℕ)
read_pair n rest = Some (n, rest)

pair_of : (m n : ℕ) (p q : List ℕ) → read_pair m p ≡ read_pair n q → (m ≡ n) × (p ≡ q)
pair_of m n p q e =
    let same = some_is (m, p) (n, q) e in
    (ap (λ (u : ℕ × List ℕ). u.0) same, ap (λ (u : ℕ × List ℕ). u.1) same)

prefix_free : (p q x y : List ℕ) → length p < 2 ^ 32 → length q < 2 ^ 32 → to_le_bytes w32 (length p) ++ (p ++ x) ≡ to_le_bytes w32 (length q) ++ (q ++ y) → (p ≡ q) × (x ≡ y)
prefix_free p q x y short-p short-q e =
    let read-p = number_again w32 (2 ^ 32) wide32 (length p) (p ++ x) short-p in
    let read-q = number_again w32 (2 ^ 32) wide32 (length q) (q ++ y) short-q in
    let same = pair_of (length p) (length q) (p ++ x) (q ++ y) (sym read-p ∙ ap (number_at w32) e ∙ read-q) in
    let fronts : take (length p) (p ++ x) ≡ take (length p) (q ++ y) = ap (take (length p)) same.1 in
    let rests : drop (length p) (p ++ x) ≡ drop (length p) (q ++ y) = ap (drop (length p)) same.1 in (
      sym (take_at p x (length p) refl) ∙ fronts ∙ take_at q y (length p) (sym same.0),
      sym (drop_at p x (length p) refl) ∙ rests ∙ drop_at q y (length p) (sym same.0),
    )

pub no_prefix : (format : Format) (a b : Record) (x y : List ℕ) → IsInGrammar format a → IsInGrammar format b → encoded format a ++ x ≡ encoded format b ++ y → (a ≡ b) × (x ≡ y)
no_prefix format a b x y g h e =
    let fits-a : length (payload format a) < 2 ^ 32 = omega (arith, few_bytes format a g) in
    let fits-b : length (payload format b) < 2 ^ 32 = omega (arith, few_bytes format b h) in
    let same = prefix_free (payload format a) (payload format b) x y fits-a fits-b e in
    (one_record format a b g h same.0, same.1)
