-- The parts of a payload that is a record's.
use Rattle.std.specs.Prelude.{◌≡◌, ℕ, List, length, flat_map, All}
use Rattle.edits.specs.Lawful.{IsLawful}
use Rattle.edits.specs.Texts.{AreInitials, IsComment, IsReference}
use Rattle.edits.specs.declared.content.What.{What}
use Rattle.edits.specs.declared.content.What.TheVariants.{AddStation, SetStation, PutReadings, DropReadings, FlagReadings, PutCorrection, DropCorrection, PutShift, DropShift, AddRating, PutPeriod, DropPeriod, PutEstimate, DropEstimate, PutMeasurement, DropMeasurement, Review, Decide, SetEdition}
use Rattle.edits.specs.declared.estimates.Estimate.{Estimate}
use Rattle.edits.specs.declared.measurements.Measurement.{Measurement}
use Rattle.fixed_units.specs.Quantities.{IsSite}
use Rattle.ratings.specs.Spans.{Span}
use Rattle.records.specs.Parsing.{Parts, readings_in, rows_in}
use Rattle.records.specs.declared.drafts.Draft.{Draft}
use Rattle.records.specs.declared.drafts.Fields.{Fields}
use Rattle.records.specs.declared.drafts.Fields.TheVariants.{Addition, Setting, Put, DroppedSpan, FlaggedSpan, Correction, DroppedCorrection, Shift, DroppedShift, Rating, Period, DroppedPeriod, DroppedEstimate, DroppedMeasurement, Decided, Edition}
use Rattle.records.specs.declared.drafts.Fields.TheVariants as fields
use Rattle.records.specs.declared.estimate_drafts.EstimateDraft.{EstimateDraft}
use Rattle.records.specs.declared.measurement_drafts.MeasurementDraft.{MeasurementDraft}
use Rattle.records.specs.declared.period_drafts.PeriodDraft.{PeriodDraft}
use Rattle.records.specs.Payloads.{sheet_bytes}
use Rattle.records.specs.Sheets.{IsSheet, AreSheetsOf}
use Rattle.records.specs.Sheets.{Record}

-- the period that a draft is
abbrev pub span_of : PeriodDraft → Span
span_of d = record { from = d.from; until = d.until; rating = d.rating }

-- the estimate that a draft is
abbrev pub estimated : EstimateDraft → Estimate
estimated d = record { day = d.day; discharge = d.discharge }

-- the measurement that a draft is
abbrev pub measured : MeasurementDraft → Measurement
measured d = record { number = d.number; at = d.at; gage = d.gage; discharge = d.discharge; grade = d.grade }

-- what an edit of these fields changes
abbrev pub what_of : Fields → What
what_of (Addition name zone gap stage_array discharge_array) =
    AddStation name.now zone.now gap stage_array.now discharge_array.now
what_of (Setting name gap stage_array discharge_array) = SetStation name.now gap stage_array.now discharge_array.now
what_of (Put pieces) = PutReadings (readings_in pieces.now)
what_of (DroppedSpan from to) = DropReadings from to
what_of (FlaggedSpan from to flag) = FlagReadings from to flag
what_of (Correction set entry) = PutCorrection set entry.at entry.points.items entry.prorate
what_of (DroppedCorrection set at) = DropCorrection set at
what_of (Shift entry) = PutShift entry.at entry.points.items entry.prorate
what_of (DroppedShift at) = DropShift at
what_of (Rating number rows) = AddRating number (rows_in rows.now)
what_of (Period draft) = PutPeriod (span_of draft)
what_of (DroppedPeriod from) = DropPeriod from
what_of (fields.Estimate draft) = PutEstimate (estimated draft)
what_of (DroppedEstimate day) = DropEstimate day
what_of (fields.Measurement draft) = PutMeasurement (measured draft)
what_of (DroppedMeasurement number) = DropMeasurement number
what_of (fields.Review from to) = Review from to
what_of (Decided from to decision) = Decide from to decision
what_of (Edition day least) = SetEdition day least

-- the parts that a draft lends
abbrev pub parts : Draft → Parts
parts d =
    record { by = d.by.now; reference = d.reference.now; site = record { digits = d.digits; value = d.value }; comment = d.comment.now; what = what_of d.fields; behind = d.behind.now }

-- the bytes are so many sheets
pub record AreSheets (count : ℕ) (bytes : List ℕ) : Type 0 where
  pub sheets : List (List ℕ)
  pub bytes_are : bytes ≡ flat_map sheet_bytes sheets
  pub so_many : length sheets ≡ count
  pub each : All IsSheet sheets

-- the bytes are the sheets of this edit
pub record HasSheets (what : What) (bytes : List ℕ) : Type 0 where
  pub sheets : List (List ℕ)
  pub bytes_are : bytes ≡ flat_map sheet_bytes sheets
  pub are : AreSheetsOf what sheets

-- each part keeps to its range, and its sheets stand behind it
pub record AreLawful (p : Parts) : Type 0 where
  pub by_range : AreInitials p.by
  pub reference_range : IsReference p.reference
  pub site_range : IsSite p.site
  pub comment_range : IsComment p.comment
  pub what_range : IsLawful p.what
  pub sheets_behind : HasSheets p.what p.behind

-- the record has these parts
pub record HasParts (piece : Record) (p : Parts) : Type 0 where
  pub by_is : piece.edit.by ≡ p.by
  pub reference_is : piece.edit.reference ≡ p.reference
  pub site_is : piece.edit.site ≡ p.site
  pub comment_is : piece.edit.comment ≡ p.comment
  pub what_is : piece.edit.what ≡ p.what
  pub sheets_are : p.behind ≡ flat_map sheet_bytes piece.sheets
  pub sheets_kept : AreSheetsOf piece.edit.what piece.sheets
