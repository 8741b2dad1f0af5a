-- The fields of each kind of edit and their bytes, both ways.
use Rattle.std.proofs.Common.{◌≡◌, ℕ, ◌^◌, ◌<◌, List, [], ◌∷◌, ◌++◌, length, Option, Some, refl, sym, ap, subst, ◌∙◌, arith, append_assoc, FitsSigned}
use Rattle.std.specs.Prelude.{ℤ}
use Rattle.std.specs.Int.{w32, w64, to_le_bytes}
use Rattle.std.proofs.lemmas.Int.{ints}
use Rattle.edits.specs.Kinds.{kind_number, kind_numbered, kind_of}
use Rattle.edits.specs.Lawful.{IsLawful}
use Rattle.edits.specs.declared.kinds.Kind.{Kind}
use Rattle.edits.specs.declared.kinds.Kind.TheVariants as kinds
use Rattle.edits.proofs.KindLemmas.{numbered_is}
use Rattle.edits.specs.declared.content.What.{What}
use Rattle.edits.specs.declared.content.What.TheVariants.{AddStation, SetStation, PutReadings, DropReadings, FlagReadings, PutCorrection, DropCorrection, PutShift, DropShift, AddRating, PutPeriod, DropPeriod, PutEstimate, DropEstimate, PutMeasurement, DropMeasurement, Review, Decide, SetEdition}
use Rattle.fixed_units.specs.Quantities.{IsDay, IsStamp, IsStage, IsDischarge, SiteNumber}
use Rattle.fixed_units.specs.declared.readings.Reading.{Reading}
use Rattle.records.specs.Payloads.{short_text, signed_number, day_number, site_number, kind, fields}
use Rattle.records.specs.Parsing.{both_at, byte_at, number_at, front_at, short_text_at, signed_number_at, site_number_at, day_at, sender_at, arrays_at, addition, addition_at, setting, setting_at, put, put_at, readings_at, dropped_readings, dropped_readings_at, flagged_readings, flagged_readings_at, entry_at, correction, correction_at, dropped_correction, dropped_correction_at, shift, shift_at, dropped_shift, dropped_shift_at, added_rating, rating_at, period, period_at, dropped_period, dropped_period_at, estimate, estimate_at, dropped_estimate, dropped_estimate_at, measurement, measurement_at, dropped_measurement, dropped_measurement_at, review, review_at, decided, decided_at, edition, edition_at, fields_at, fields_of}
use Rattle.records.proofs.Fields.{IsBytes, bind_some, Takes, Reads, IsAny, both_reads, made_takes, made_again, byte_reads, number_reads, signed_reads, day_reads, wide32, front_reads, short_reads, site_reads}
use Rattle.records.proofs.CurveLemmas.{Parts, entry_parts, FitsEntry, entry_reads, entry_spelling, put_fits}
use Rattle.records.proofs.EditionLemmas.{Edition, edition_parts, edition_bytes, FitsEdition, edition_reads, least_fits}
use Rattle.records.proofs.MeasurementLemmas.{Estimated, estimated_parts, estimated_bytes, FitsEstimated, estimated_reads, Measured, measured_parts, measured_bytes, FitsMeasured, measured_reads}
use Rattle.records.proofs.ReviewLemmas.{Reviewed, reviewed_parts, reviewed_bytes, FitsReviewed, reviewed_reads, Judged, judged_parts, judged_bytes, FitsJudged, judged_reads}
use Rattle.records.proofs.RatingLemmas.{Rating, rating_parts, rating_bytes, FitsRating, rating_reads, rating_fits, Period, period_parts, period_spelled, FitsPeriod, period_reads, end_fits}
use Rattle.records.proofs.PutLemmas.{Flagged, flagged_parts, flagged_bytes, FitsFlagged, flagged_reads, readings_bytes, FitsReadings, readings_read, readings_fit}

-- ---- who makes an edit

abbrev pub Sender : Type 0
Sender = List ℕ × (List ℕ × SiteNumber)

abbrev pub sender_bytes : Sender → List ℕ
sender_bytes s = short_text s.0 ++ (short_text s.1.0 ++ site_number s.1.1)

abbrev pub FitsSender : Sender → Type 0
FitsSender s = IsAny s.0 × (IsAny s.1.0 × (s.1.1.value < 2 ^ 64))

pub sender_reads : Reads Sender sender_at sender_bytes FitsSender
unfolding sender_at
sender_reads =
    both_reads (List ℕ) (List ℕ × SiteNumber) short_text_at short_text IsAny (both_at short_text_at site_number_at) (λ p. short_text p.0 ++ site_number p.1) (λ p. IsAny p.0 × (p.1.value < 2 ^ 64)) short_reads
    (both_reads (List ℕ) SiteNumber short_text_at short_text IsAny site_number_at site_number (λ s. s.value < 2 ^ 64) short_reads site_reads)

-- ---- a gap tolerance and two arrays

abbrev Arrays : Type 0
Arrays = ℕ × (List ℕ × List ℕ)

abbrev arrays_bytes : Arrays → List ℕ
arrays_bytes f = to_le_bytes w32 f.0 ++ (f.1.0 ++ f.1.1)

abbrev FitsArrays : Arrays → Type 0
FitsArrays f = (f.0 < 2 ^ 32) × ((length f.1.0 ≡ 10) × (length f.1.1 ≡ 10))

arrays_reads : Reads Arrays arrays_at arrays_bytes FitsArrays
unfolding arrays_at
arrays_reads =
    both_reads ℕ (List ℕ × List ℕ) (number_at w32) (to_le_bytes w32) (λ n. n < 2 ^ 32) (both_at (front_at 10) (front_at 10)) (λ p. p.0 ++ p.1) (λ p. (length p.0 ≡ 10) × (length p.1 ≡ 10)) (number_reads w32 (2 ^ 32) wide32)
    (both_reads (List ℕ) (List ℕ) (front_at 10) (λ t. t) (λ t. length t ≡ 10) (front_at 10) (λ t. t) (λ t. length t ≡ 10) (front_reads 10) (front_reads 10))

-- ---- a station that is set

abbrev Setting : Type 0
Setting = List ℕ × Arrays

abbrev setting_parts : List ℕ → Option (Setting × List ℕ)
setting_parts bytes = both_at short_text_at arrays_at bytes

abbrev setting_bytes : Setting → List ℕ
setting_bytes f = short_text f.0 ++ arrays_bytes f.1

abbrev FitsSetting : Setting → Type 0
FitsSetting f = IsAny f.0 × FitsArrays f.1

setting_reads : Reads Setting setting_parts setting_bytes FitsSetting
setting_reads = both_reads (List ℕ) Arrays short_text_at short_text IsAny arrays_at arrays_bytes FitsArrays short_reads arrays_reads

three_grouped : (a b c d : List ℕ) → ((a ++ b) ++ c) ++ d ≡ a ++ (b ++ (c ++ d))
three_grouped a b c d = simp append_assoc

setting_spelling : (f : Setting) → fields (setting f) ≡ setting_bytes f
setting_spelling f = three_grouped (short_text f.0) (to_le_bytes w32 f.1.0) f.1.1.0 f.1.1.1

-- ---- a station that is added

abbrev Addition : Type 0
Addition = List ℕ × Setting

abbrev addition_parts : List ℕ → Option (Addition × List ℕ)
addition_parts bytes = both_at short_text_at (both_at short_text_at arrays_at) bytes

abbrev addition_bytes : Addition → List ℕ
addition_bytes f = short_text f.0 ++ setting_bytes f.1

abbrev FitsAddition : Addition → Type 0
FitsAddition f = IsAny f.0 × FitsSetting f.1

addition_reads : Reads Addition addition_parts addition_bytes FitsAddition
addition_reads = both_reads (List ℕ) Setting short_text_at short_text IsAny setting_parts setting_bytes FitsSetting short_reads setting_reads

four_grouped : (a b c d e : List ℕ) → (((a ++ b) ++ c) ++ d) ++ e ≡ a ++ (b ++ (c ++ (d ++ e)))
four_grouped a b c d e = simp append_assoc

addition_spelling : (f : Addition) → fields (addition f) ≡ addition_bytes f
addition_spelling f = four_grouped (short_text f.0) (short_text f.1.0) (to_le_bytes w32 f.1.1.0) f.1.1.1.0 f.1.1.1.1

-- ---- a span of readings that is dropped

abbrev Span : Type 0
Span = ℤ × ℤ

abbrev span_parts : List ℕ → Option (Span × List ℕ)
span_parts bytes = both_at signed_number_at signed_number_at bytes

abbrev span_bytes : Span → List ℕ
span_bytes f = signed_number f.0 ++ signed_number f.1

abbrev FitsSpan : Span → Type 0
FitsSpan f = FitsSigned w64 f.0 × FitsSigned w64 f.1

span_reads : Reads Span span_parts span_bytes FitsSpan
span_reads = both_reads ℤ ℤ signed_number_at signed_number (FitsSigned w64) signed_number_at signed_number (FitsSigned w64) signed_reads signed_reads

-- ---- an entry that is put into a correction set, and one that is dropped

abbrev Correction : Type 0
Correction = ℕ × Parts

abbrev correction_parts : List ℕ → Option (Correction × List ℕ)
correction_parts bytes = both_at byte_at entry_at bytes

abbrev correction_bytes : Correction → List ℕ
correction_bytes f = f.0 ∷ entry_parts f.1

abbrev FitsCorrection : Correction → Type 0
FitsCorrection f = IsAny f.0 × FitsEntry f.1

correction_reads : Reads Correction correction_parts correction_bytes FitsCorrection
correction_reads = both_reads ℕ Parts byte_at (λ b. b ∷ []) IsAny entry_at entry_parts FitsEntry byte_reads entry_reads

correction_spelling : (f : Correction) → fields (correction f) ≡ correction_bytes f
correction_spelling f = ap (λ (t : List ℕ). f.0 ∷ t) (entry_spelling f.1)

abbrev Dropped : Type 0
Dropped = ℕ × ℤ

abbrev dropped_parts : List ℕ → Option (Dropped × List ℕ)
dropped_parts bytes = both_at byte_at signed_number_at bytes

abbrev dropped_bytes : Dropped → List ℕ
dropped_bytes f = f.0 ∷ signed_number f.1

abbrev FitsDropped : Dropped → Type 0
FitsDropped f = IsAny f.0 × FitsSigned w64 f.1

dropped_reads : Reads Dropped dropped_parts dropped_bytes FitsDropped
dropped_reads = both_reads ℕ ℤ byte_at (λ b. b ∷ []) IsAny signed_number_at signed_number (FitsSigned w64) byte_reads signed_reads

number32_reads : Reads ℕ (number_at w32) (to_le_bytes w32) (λ n. n < 2 ^ 32)
number32_reads = number_reads w32 (2 ^ 32) wide32

-- ---- each kind is read

-- what a reader of one kind took
abbrev TakesKind : Kind → List ℕ → What → List ℕ → Type 0
TakesKind kind bytes what rest = Takes bytes (fields what) rest × (kind ≡ kind_of what)

took : (kind : Kind) (bytes text rest : List ℕ) (v w : What) → v ≡ w → fields v ≡ text → kind ≡ kind_of v → Takes bytes text rest → TakesKind kind bytes w rest
took kind bytes text rest v w same spelled of t =
    subst (λ (u : What). TakesKind kind bytes u rest) same (subst (λ (x : List ℕ). Takes bytes x rest) (sym spelled) t, of)

addition_takes : (bytes : List ℕ) (what : What) (rest : List ℕ) → IsBytes bytes → addition_at bytes ≡ Some (what, rest) → TakesKind kinds.AddStation bytes what rest
unfolding addition_at
addition_takes bytes what rest fits e =
    let m = made_takes Addition What addition addition_parts addition_bytes FitsAddition addition_reads bytes what rest fits e in
    took kinds.AddStation bytes (addition_bytes m.0) rest (addition m.0) what m.1 (addition_spelling m.0) refl m.2

setting_takes : (bytes : List ℕ) (what : What) (rest : List ℕ) → IsBytes bytes → setting_at bytes ≡ Some (what, rest) → TakesKind kinds.SetStation bytes what rest
unfolding setting_at
setting_takes bytes what rest fits e =
    let m = made_takes Setting What setting setting_parts setting_bytes FitsSetting setting_reads bytes what rest fits e in
    took kinds.SetStation bytes (setting_bytes m.0) rest (setting m.0) what m.1 (setting_spelling m.0) refl m.2

put_takes : (bytes : List ℕ) (what : What) (rest : List ℕ) → IsBytes bytes → put_at bytes ≡ Some (what, rest) → TakesKind kinds.PutReadings bytes what rest
unfolding put_at
put_takes bytes what rest fits e =
    let m = made_takes (List Reading) What put readings_at readings_bytes FitsReadings readings_read bytes what rest fits e in
    took kinds.PutReadings bytes (readings_bytes m.0) rest (put m.0) what m.1 refl refl m.2

dropped_readings_takes : (bytes : List ℕ) (what : What) (rest : List ℕ) → IsBytes bytes → dropped_readings_at bytes ≡ Some (what, rest) → TakesKind kinds.DropReadings bytes what rest
unfolding dropped_readings_at
dropped_readings_takes bytes what rest fits e =
    let m = made_takes Span What dropped_readings span_parts span_bytes FitsSpan span_reads bytes what rest fits e in
    took kinds.DropReadings bytes (span_bytes m.0) rest (dropped_readings m.0) what m.1 refl refl m.2

flagged_readings_takes : (bytes : List ℕ) (what : What) (rest : List ℕ) → IsBytes bytes → flagged_readings_at bytes ≡ Some (what, rest) → TakesKind kinds.FlagReadings bytes what rest
unfolding flagged_readings_at
flagged_readings_takes bytes what rest fits e =
    let m = made_takes Flagged What flagged_readings flagged_parts flagged_bytes FitsFlagged flagged_reads bytes what rest fits e in
    took kinds.FlagReadings bytes (flagged_bytes m.0) rest (flagged_readings m.0) what m.1 refl refl m.2

correction_takes : (bytes : List ℕ) (what : What) (rest : List ℕ) → IsBytes bytes → correction_at bytes ≡ Some (what, rest) → TakesKind kinds.PutCorrection bytes what rest
unfolding correction_at
correction_takes bytes what rest fits e =
    let m = made_takes Correction What correction correction_parts correction_bytes FitsCorrection correction_reads bytes what rest fits e in
    took kinds.PutCorrection bytes (correction_bytes m.0) rest (correction m.0) what m.1 (correction_spelling m.0) refl m.2

dropped_correction_takes : (bytes : List ℕ) (what : What) (rest : List ℕ) → IsBytes bytes → dropped_correction_at bytes ≡ Some (what, rest) → TakesKind kinds.DropCorrection bytes what rest
unfolding dropped_correction_at
dropped_correction_takes bytes what rest fits e =
    let m = made_takes Dropped What dropped_correction dropped_parts dropped_bytes FitsDropped dropped_reads bytes what rest fits e in
    took kinds.DropCorrection bytes (dropped_bytes m.0) rest (dropped_correction m.0) what m.1 refl refl m.2

shift_takes : (bytes : List ℕ) (what : What) (rest : List ℕ) → IsBytes bytes → shift_at bytes ≡ Some (what, rest) → TakesKind kinds.PutShift bytes what rest
unfolding shift_at
shift_takes bytes what rest fits e =
    let m = made_takes Parts What shift entry_at entry_parts FitsEntry entry_reads bytes what rest fits e in
    took kinds.PutShift bytes (entry_parts m.0) rest (shift m.0) what m.1 (entry_spelling m.0) refl m.2

dropped_shift_takes : (bytes : List ℕ) (what : What) (rest : List ℕ) → IsBytes bytes → dropped_shift_at bytes ≡ Some (what, rest) → TakesKind kinds.DropShift bytes what rest
unfolding dropped_shift_at
dropped_shift_takes bytes what rest fits e =
    let m = made_takes ℤ What dropped_shift signed_number_at signed_number (FitsSigned w64) signed_reads bytes what rest fits e in
    took kinds.DropShift bytes (signed_number m.0) rest (dropped_shift m.0) what m.1 refl refl m.2

rating_takes : (bytes : List ℕ) (what : What) (rest : List ℕ) → IsBytes bytes → rating_at bytes ≡ Some (what, rest) → TakesKind kinds.AddRating bytes what rest
unfolding rating_at
rating_takes bytes what rest fits e =
    let m = made_takes Rating What added_rating rating_parts rating_bytes FitsRating rating_reads bytes what rest fits e in
    took kinds.AddRating bytes (rating_bytes m.0) rest (added_rating m.0) what m.1 refl refl m.2

period_takes : (bytes : List ℕ) (what : What) (rest : List ℕ) → IsBytes bytes → period_at bytes ≡ Some (what, rest) → TakesKind kinds.PutPeriod bytes what rest
unfolding period_at
period_takes bytes what rest fits e =
    let m = made_takes Period What period period_parts period_spelled FitsPeriod period_reads bytes what rest fits e in
    took kinds.PutPeriod bytes (period_spelled m.0) rest (period m.0) what m.1 refl refl m.2

dropped_period_takes : (bytes : List ℕ) (what : What) (rest : List ℕ) → IsBytes bytes → dropped_period_at bytes ≡ Some (what, rest) → TakesKind kinds.DropPeriod bytes what rest
unfolding dropped_period_at
dropped_period_takes bytes what rest fits e =
    let m = made_takes ℤ What dropped_period signed_number_at signed_number (FitsSigned w64) signed_reads bytes what rest fits e in
    took kinds.DropPeriod bytes (signed_number m.0) rest (dropped_period m.0) what m.1 refl refl m.2

estimate_takes : (bytes : List ℕ) (what : What) (rest : List ℕ) → IsBytes bytes → estimate_at bytes ≡ Some (what, rest) → TakesKind kinds.PutEstimate bytes what rest
unfolding estimate_at
estimate_takes bytes what rest fits e =
    let m = made_takes Estimated What estimate estimated_parts estimated_bytes FitsEstimated estimated_reads bytes what rest fits e in
    took kinds.PutEstimate bytes (estimated_bytes m.0) rest (estimate m.0) what m.1 refl refl m.2

dropped_estimate_takes : (bytes : List ℕ) (what : What) (rest : List ℕ) → IsBytes bytes → dropped_estimate_at bytes ≡ Some (what, rest) → TakesKind kinds.DropEstimate bytes what rest
unfolding dropped_estimate_at
dropped_estimate_takes bytes what rest fits e =
    let m = made_takes ℤ What dropped_estimate day_at day_number (FitsSigned w32) day_reads bytes what rest fits e in
    took kinds.DropEstimate bytes (day_number m.0) rest (dropped_estimate m.0) what m.1 refl refl m.2

measurement_takes : (bytes : List ℕ) (what : What) (rest : List ℕ) → IsBytes bytes → measurement_at bytes ≡ Some (what, rest) → TakesKind kinds.PutMeasurement bytes what rest
unfolding measurement_at
measurement_takes bytes what rest fits e =
    let m = made_takes Measured What measurement measured_parts measured_bytes FitsMeasured measured_reads bytes what rest fits e in
    took kinds.PutMeasurement bytes (measured_bytes m.0) rest (measurement m.0) what m.1 refl refl m.2

dropped_measurement_takes : (bytes : List ℕ) (what : What) (rest : List ℕ) → IsBytes bytes → dropped_measurement_at bytes ≡ Some (what, rest) → TakesKind kinds.DropMeasurement bytes what rest
unfolding dropped_measurement_at
dropped_measurement_takes bytes what rest fits e =
    let m = made_takes ℕ What dropped_measurement (number_at w32) (to_le_bytes w32) (λ n. n < 2 ^ 32) number32_reads bytes what rest fits e in
    took kinds.DropMeasurement bytes (to_le_bytes w32 m.0) rest (dropped_measurement m.0) what m.1 refl refl m.2

review_takes : (bytes : List ℕ) (what : What) (rest : List ℕ) → IsBytes bytes → review_at bytes ≡ Some (what, rest) → TakesKind kinds.Review bytes what rest
unfolding review_at
review_takes bytes what rest fits e =
    let m = made_takes Reviewed What review reviewed_parts reviewed_bytes FitsReviewed reviewed_reads bytes what rest fits e in
    took kinds.Review bytes (reviewed_bytes m.0) rest (review m.0) what m.1 refl refl m.2

decided_takes : (bytes : List ℕ) (what : What) (rest : List ℕ) → IsBytes bytes → decided_at bytes ≡ Some (what, rest) → TakesKind kinds.Decide bytes what rest
unfolding decided_at
decided_takes bytes what rest fits e =
    let m = made_takes Judged What decided judged_parts judged_bytes FitsJudged judged_reads bytes what rest fits e in
    took kinds.Decide bytes (judged_bytes m.0) rest (decided m.0) what m.1 refl refl m.2

edition_takes : (bytes : List ℕ) (what : What) (rest : List ℕ) → IsBytes bytes → edition_at bytes ≡ Some (what, rest) → TakesKind kinds.SetEdition bytes what rest
unfolding edition_at
edition_takes bytes what rest fits e =
    let m = made_takes Edition What edition edition_parts edition_bytes FitsEdition edition_reads bytes what rest fits e in
    took kinds.SetEdition bytes (edition_bytes m.0) rest (edition m.0) what m.1 refl refl m.2

kind_takes : (kind : Kind) (bytes : List ℕ) (what : What) (rest : List ℕ) → IsBytes bytes → fields_of kind bytes ≡ Some (what, rest) → TakesKind kind bytes what rest
unfolding fields_of
kind_takes kinds.AddStation bytes what rest fits e = addition_takes bytes what rest fits e
kind_takes kinds.SetStation bytes what rest fits e = setting_takes bytes what rest fits e
kind_takes kinds.PutReadings bytes what rest fits e = put_takes bytes what rest fits e
kind_takes kinds.DropReadings bytes what rest fits e = dropped_readings_takes bytes what rest fits e
kind_takes kinds.FlagReadings bytes what rest fits e = flagged_readings_takes bytes what rest fits e
kind_takes kinds.PutCorrection bytes what rest fits e = correction_takes bytes what rest fits e
kind_takes kinds.DropCorrection bytes what rest fits e = dropped_correction_takes bytes what rest fits e
kind_takes kinds.PutShift bytes what rest fits e = shift_takes bytes what rest fits e
kind_takes kinds.DropShift bytes what rest fits e = dropped_shift_takes bytes what rest fits e
kind_takes kinds.AddRating bytes what rest fits e = rating_takes bytes what rest fits e
kind_takes kinds.PutPeriod bytes what rest fits e = period_takes bytes what rest fits e
kind_takes kinds.DropPeriod bytes what rest fits e = dropped_period_takes bytes what rest fits e
kind_takes kinds.PutEstimate bytes what rest fits e = estimate_takes bytes what rest fits e
kind_takes kinds.DropEstimate bytes what rest fits e = dropped_estimate_takes bytes what rest fits e
kind_takes kinds.PutMeasurement bytes what rest fits e = measurement_takes bytes what rest fits e
kind_takes kinds.DropMeasurement bytes what rest fits e = dropped_measurement_takes bytes what rest fits e
kind_takes kinds.Review bytes what rest fits e = review_takes bytes what rest fits e
kind_takes kinds.Decide bytes what rest fits e = decided_takes bytes what rest fits e
kind_takes kinds.SetEdition bytes what rest fits e = edition_takes bytes what rest fits e

pub fields_take : (number : ℕ) (bytes : List ℕ) (what : What) (rest : List ℕ) → IsBytes bytes → fields_at number bytes ≡ Some (what, rest) → Takes bytes (fields what) rest × (number ≡ kind what)
unfolding fields_at
fields_take number bytes what rest fits e =
    let a = bind_some (kind_numbered number) (λ k. fields_of k bytes) (what, rest) e in
    let t = kind_takes a.0 bytes what rest fits a.2 in
    (t.0, numbered_is number a.0 a.1 ∙ ap kind_number t.1)

addition_again : (f : Addition) (rest : List ℕ) → FitsAddition f → addition_at (addition_bytes f ++ rest) ≡ Some (addition f, rest)
unfolding addition_at
addition_again f rest fits =
    made_again Addition What addition addition_parts addition_bytes FitsAddition addition_reads f rest fits

setting_again : (f : Setting) (rest : List ℕ) → FitsSetting f → setting_at (setting_bytes f ++ rest) ≡ Some (setting f, rest)
unfolding setting_at
setting_again f rest fits =
    made_again Setting What setting setting_parts setting_bytes FitsSetting setting_reads f rest fits

put_again : (f : List Reading) (rest : List ℕ) → FitsReadings f → put_at (readings_bytes f ++ rest) ≡ Some (put f, rest)
unfolding put_at
put_again f rest fits =
    made_again (List Reading) What put readings_at readings_bytes FitsReadings readings_read f rest fits

dropped_readings_again : (f : Span) (rest : List ℕ) → FitsSpan f → dropped_readings_at (span_bytes f ++ rest) ≡ Some (dropped_readings f, rest)
unfolding dropped_readings_at
dropped_readings_again f rest fits =
    made_again Span What dropped_readings span_parts span_bytes FitsSpan span_reads f rest fits

flagged_readings_again : (f : Flagged) (rest : List ℕ) → FitsFlagged f → flagged_readings_at (flagged_bytes f ++ rest) ≡ Some (flagged_readings f, rest)
unfolding flagged_readings_at
flagged_readings_again f rest fits =
    made_again Flagged What flagged_readings flagged_parts flagged_bytes FitsFlagged flagged_reads f rest fits

correction_again : (f : Correction) (rest : List ℕ) → FitsCorrection f → correction_at (correction_bytes f ++ rest) ≡ Some (correction f, rest)
unfolding correction_at
correction_again f rest fits =
    made_again Correction What correction correction_parts correction_bytes FitsCorrection correction_reads f rest fits

dropped_correction_again : (f : Dropped) (rest : List ℕ) → FitsDropped f → dropped_correction_at (dropped_bytes f ++ rest) ≡ Some (dropped_correction f, rest)
unfolding dropped_correction_at
dropped_correction_again f rest fits =
    made_again Dropped What dropped_correction dropped_parts dropped_bytes FitsDropped dropped_reads f rest fits

shift_again : (f : Parts) (rest : List ℕ) → FitsEntry f → shift_at (entry_parts f ++ rest) ≡ Some (shift f, rest)
unfolding shift_at
shift_again f rest fits = made_again Parts What shift entry_at entry_parts FitsEntry entry_reads f rest fits

dropped_shift_again : (at : ℤ) (rest : List ℕ) → FitsSigned w64 at → dropped_shift_at (signed_number at ++ rest) ≡ Some (dropped_shift at, rest)
unfolding dropped_shift_at
dropped_shift_again at rest fits =
    made_again ℤ What dropped_shift signed_number_at signed_number (FitsSigned w64) signed_reads at rest fits

rating_again : (f : Rating) (rest : List ℕ) → FitsRating f → rating_at (rating_bytes f ++ rest) ≡ Some (added_rating f, rest)
unfolding rating_at
rating_again f rest fits = made_again Rating What added_rating rating_parts rating_bytes FitsRating rating_reads f rest fits

period_again : (f : Period) (rest : List ℕ) → FitsPeriod f → period_at (period_spelled f ++ rest) ≡ Some (period f, rest)
unfolding period_at
period_again f rest fits = made_again Period What period period_parts period_spelled FitsPeriod period_reads f rest fits

dropped_period_again : (at : ℤ) (rest : List ℕ) → FitsSigned w64 at → dropped_period_at (signed_number at ++ rest) ≡ Some (dropped_period at, rest)
unfolding dropped_period_at
dropped_period_again at rest fits =
    made_again ℤ What dropped_period signed_number_at signed_number (FitsSigned w64) signed_reads at rest fits

estimate_again : (f : Estimated) (rest : List ℕ) → FitsEstimated f → estimate_at (estimated_bytes f ++ rest) ≡ Some (estimate f, rest)
unfolding estimate_at
estimate_again f rest fits =
    made_again Estimated What estimate estimated_parts estimated_bytes FitsEstimated estimated_reads f rest fits

dropped_estimate_again : (f : ℤ) (rest : List ℕ) → FitsSigned w32 f → dropped_estimate_at (day_number f ++ rest) ≡ Some (dropped_estimate f, rest)
unfolding dropped_estimate_at
dropped_estimate_again f rest fits =
    made_again ℤ What dropped_estimate day_at day_number (FitsSigned w32) day_reads f rest fits

measurement_again : (f : Measured) (rest : List ℕ) → FitsMeasured f → measurement_at (measured_bytes f ++ rest) ≡ Some (measurement f, rest)
unfolding measurement_at
measurement_again f rest fits =
    made_again Measured What measurement measured_parts measured_bytes FitsMeasured measured_reads f rest fits

dropped_measurement_again : (n : ℕ) (rest : List ℕ) → n < 2 ^ 32 → dropped_measurement_at (to_le_bytes w32 n ++ rest) ≡ Some (dropped_measurement n, rest)
unfolding dropped_measurement_at
dropped_measurement_again n rest fits =
    made_again ℕ What dropped_measurement (number_at w32) (to_le_bytes w32) (λ n. n < 2 ^ 32) number32_reads n rest fits

review_again : (f : Reviewed) (rest : List ℕ) → FitsReviewed f → review_at (reviewed_bytes f ++ rest) ≡ Some (review f, rest)
unfolding review_at
review_again f rest fits = made_again Reviewed What review reviewed_parts reviewed_bytes FitsReviewed reviewed_reads f rest fits

decided_again : (f : Judged) (rest : List ℕ) → FitsJudged f → decided_at (judged_bytes f ++ rest) ≡ Some (decided f, rest)
unfolding decided_at
decided_again f rest fits = made_again Judged What decided judged_parts judged_bytes FitsJudged judged_reads f rest fits

edition_again : (f : Edition) (rest : List ℕ) → FitsEdition f → edition_at (edition_bytes f ++ rest) ≡ Some (edition f, rest)
unfolding edition_at
edition_again f rest fits = made_again Edition What edition edition_parts edition_bytes FitsEdition edition_reads f rest fits

stamp_fits : (at : ℤ) → IsStamp at → FitsSigned w64 at
stamp_fits at stamp = omega (arith, ints)

day_fits : (day : ℤ) → IsDay day → FitsSigned w32 day
day_fits day is = omega (arith, ints)

stage_fits : (stage : ℤ) → IsStage stage → FitsSigned w64 stage
stage_fits stage is = omega (arith, ints)

discharge_fits : (discharge : ℤ) → IsDischarge discharge → FitsSigned w64 discharge
discharge_fits discharge is = omega (arith, ints)

pub fields_again : (what : What) (rest : List ℕ) → IsLawful what → fields_at (kind what) (fields what ++ rest) ≡ Some (what, rest)
unfolding fields_at fields_of
fields_again (AddStation name zone gap stages discharges) rest law =
    let set = law.0 in
    let f : Addition = (name, (zone, (gap, (stages, discharges)))) in
    ap (λ (t : List ℕ). addition_at (t ++ rest)) (addition_spelling f) ∙ addition_again f rest (tt, (tt, (omega (arith, set.near.high), (set.stages.ten, set.discharges.ten))))
fields_again (SetStation name gap stages discharges) rest set =
    let f : Setting = (name, (gap, (stages, discharges))) in
    ap (λ (t : List ℕ). setting_at (t ++ rest)) (setting_spelling f) ∙ setting_again f rest (tt, (omega (arith, set.near.high), (set.stages.ten, set.discharges.ten)))
fields_again (PutReadings readings) rest are = put_again readings rest (readings_fit readings are)
fields_again (DropReadings from to) rest span =
    dropped_readings_again (from, to) rest (stamp_fits from span.begins, stamp_fits to span.ends)
fields_again (FlagReadings from to flag) rest span =
    flagged_readings_again (from, (to, flag)) rest (stamp_fits from span.begins, (stamp_fits to span.ends, tt))
fields_again (PutCorrection set at curve prorate) rest law =
    let f : Correction = (set, (at, (curve, prorate))) in
    ap (λ (t : List ℕ). correction_at (t ++ rest)) (correction_spelling f) ∙ correction_again f rest (tt, (stamp_fits at law.1, (put_fits curve law.2, tt)))
fields_again (DropCorrection set at) rest law = dropped_correction_again (set, at) rest (tt, stamp_fits at law.1)
fields_again (PutShift at curve prorate) rest law =
    ap (λ (t : List ℕ). shift_at (t ++ rest)) (entry_spelling (at, (curve, prorate))) ∙ shift_again (at, (curve, prorate)) rest (stamp_fits at law.0, (put_fits curve law.1, tt))
fields_again (DropShift at) rest law = dropped_shift_again at rest (stamp_fits at law)
fields_again (AddRating rating table) rest law =
    rating_again (rating, table) rest (omega (arith, law.0.greatest), rating_fits table law.1)
fields_again (PutPeriod p) rest put =
    period_again (p.rating, (p.from, p.until)) rest (omega (arith, put.rating.greatest), (stamp_fits p.from put.begins, end_fits p.until put.ends))
fields_again (DropPeriod from) rest law = dropped_period_again from rest (stamp_fits from law)
fields_again (PutEstimate estimate) rest put =
    estimate_again (estimate.day, estimate.discharge) rest (day_fits estimate.day put.day, discharge_fits estimate.discharge put.discharge)
fields_again (DropEstimate day) rest is = dropped_estimate_again day rest (day_fits day is)
fields_again (PutMeasurement m) rest put =
    measurement_again (m.number, (m.at, (m.gage, (m.discharge, m.grade)))) rest
    (omega (arith, put.numbered.greatest), (stamp_fits m.at put.stamp, (stage_fits m.gage put.gage, (discharge_fits m.discharge put.discharge, tt))))
fields_again (DropMeasurement number) rest law = dropped_measurement_again number rest (omega (arith, law.greatest))
fields_again (Review from to) rest span =
    review_again (from, to) rest (day_fits from span.begins, day_fits to span.ends)
fields_again (Decide from to decision) rest span =
    decided_again (from, (to, decision)) rest (day_fits from span.begins, (day_fits to span.ends, tt))
fields_again (SetEdition day least) rest law =
    edition_again (day, least) rest (day_fits day law.begins, least_fits least law.cover)
