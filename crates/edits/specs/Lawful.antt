-- What an edit keeps to, by its kind.
use Rattle.std.specs.Prelude.{ℕ, ◌≤◌, ◌≤ℤ◌, ◌<ℤ◌, ◌+ℤ◌, pos, List, length, All, IfSome, Option, ℤ}
use Rattle.civil_days.specs.Starts.{IsZone}
use Rattle.curves.specs.Curve.{stage_of}
use Rattle.editions.specs.Covers.{IsLeastCover}
use Rattle.edits.specs.Texts.{IsName}
use Rattle.edits.specs.declared.content.What.{What}
use Rattle.edits.specs.declared.content.What.TheVariants.{AddStation, SetStation, PutReadings, DropReadings, FlagReadings, PutCorrection, DropCorrection, PutShift, DropShift, AddRating, PutPeriod, DropPeriod, PutEstimate, DropEstimate, PutMeasurement, DropMeasurement, Review, Decide, SetEdition}
use Rattle.edits.specs.declared.estimates.Estimate.{Estimate}
use Rattle.edits.specs.declared.measurements.Measurement.{Measurement}
use Rattle.fixed_units.specs.Quantities.{IsAmount, IsDay, IsDischarge, IsStage, IsStamp, most_gap, most_rating_number}
use Rattle.fixed_units.specs.RoundingArray.{IsRoundingArray}
use Rattle.fixed_units.specs.declared.readings.Reading.{Reading}
use Rattle.readings.specs.Readings.{IsRising}
use Rattle.rating_tables.specs.Table.{IsRating}
use Rattle.ratings.specs.Spans.{Span, EndsLater}
use Rattle.rising.specs.Lists as lists

-- a gap tolerance is 1 to 720 minutes
pub record IsGap (gap : ℕ) : Type 0 where
  pub low : 1 ≤ gap
  pub high : gap ≤ most_gap

-- what can be set of a station: its name, its gap tolerance, and its rounding arrays of stages and of discharges
pub record AreSettings (name : List ℕ) (gap : ℕ) (stage_array discharge_array : List ℕ) : Type 0 where
  pub named : IsName name
  pub near : IsGap gap
  pub stages : IsRoundingArray stage_array
  pub discharges : IsRoundingArray discharge_array

-- the text is a name and the zone of a station
pub record IsStationZone (text : List ℕ) : Type 0 where
  pub printed : IsName text
  pub is : IsZone text

-- how many readings one edit puts at most
abbrev pub most_readings : ℕ
most_readings = 100_000

-- a reading that is put: a stage at a stamp, of any flag
pub record IsPutReading (reading : Reading) : Type 0 where
  pub stamp : IsStamp reading.at
  pub stage : IsStage reading.raw

-- readings that are put rise by instant
pub record ArePutReadings (readings : List Reading) : Type 0 where
  pub fewest : 1 ≤ length readings
  pub most : length readings ≤ most_readings
  pub rising : IsRising readings
  pub each : All IsPutReading readings

-- the span of a drop or of a flagging: from a stamp to one that is not before it
pub record IsReadingSpan (from to : ℤ) : Type 0 where
  pub begins : IsStamp from
  pub ends : IsStamp to
  pub ordered : from ≤ℤ to

-- the number of a correction set: 1 to 3
pub record IsSetNumber (set : ℕ) : Type 0 where
  pub least : 1 ≤ set
  pub greatest : set ≤ 3

-- a point of a curve that is put: a stage and an amount
pub record IsPutPoint (point : ℤ × ℤ) : Type 0 where
  pub stage : IsStage point.0
  pub amount : IsAmount point.1

-- a curve that is put: one to three points whose stages strictly rise
pub record IsPutCurve (points : List (ℤ × ℤ)) : Type 0 where
  pub fewest : 1 ≤ length points
  pub most : length points ≤ 3
  pub rising : lists.IsRising stage_of points
  pub each : All IsPutPoint points

-- the number of a rating: 1 to 999,999
pub record IsRatingNumber (rating : ℕ) : Type 0 where
  pub least : 1 ≤ rating
  pub greatest : rating ≤ most_rating_number

-- a period that is put: of a rating, from a stamp until a later one, or without end
pub record IsPutPeriod (period : Span) : Type 0 where
  pub rating : IsRatingNumber period.rating
  pub begins : IsStamp period.from
  pub ends : IfSome period.until IsStamp
  pub ordered : EndsLater period

-- an estimate that is put: a discharge of a day
pub record IsPutEstimate (estimate : Estimate) : Type 0 where
  pub day : IsDay estimate.day
  pub discharge : IsDischarge estimate.discharge

-- the number of a measurement: from 1, in 32 bits
pub record IsMeasurementNumber (number : ℕ) : Type 0 where
  pub least : 1 ≤ number
  pub greatest : number ≤ 4_294_967_295

-- a measurement that is put: a discharge at a gage height, made at a stamp
pub record IsPutMeasurement (measurement : Measurement) : Type 0 where
  pub numbered : IsMeasurementNumber measurement.number
  pub stamp : IsStamp measurement.at
  pub gage : IsStage measurement.gage
  pub discharge : IsDischarge measurement.discharge

-- how many days one edit reviews, or decides on, at most
abbrev pub most_reviewed_days : ℕ
most_reviewed_days = 366

-- the days of a review or of a decision: from one day to another that is not before it, and not too many
pub record IsReviewSpan (from to : ℤ) : Type 0 where
  pub begins : IsDay from
  pub ends : IsDay to
  pub ordered : from ≤ℤ to
  pub most : to <ℤ (from +ℤ pos most_reviewed_days)

-- an edition that is set: from a day on, with a least cover, or none where the whole day is needed
pub record IsSetEdition (day : ℤ) (least : Option ℕ) : Type 0 where
  pub begins : IsDay day
  pub cover : IfSome least IsLeastCover

-- what an edit of each kind is lawful by
abbrev pub IsLawful : What → Type 0
IsLawful (AddStation name zone gap stage_array discharge_array) =
    AreSettings name gap stage_array discharge_array × IsStationZone zone
IsLawful (SetStation name gap stage_array discharge_array) = AreSettings name gap stage_array discharge_array
IsLawful (PutReadings readings) = ArePutReadings readings
IsLawful (DropReadings from to) = IsReadingSpan from to
IsLawful (FlagReadings from to flag) = IsReadingSpan from to
IsLawful (PutCorrection set at curve prorate) = IsSetNumber set × IsStamp at × IsPutCurve curve
IsLawful (DropCorrection set at) = IsSetNumber set × IsStamp at
IsLawful (PutShift at curve prorate) = IsStamp at × IsPutCurve curve
IsLawful (DropShift at) = IsStamp at
IsLawful (AddRating rating table) = IsRatingNumber rating × IsRating table
IsLawful (PutPeriod period) = IsPutPeriod period
IsLawful (DropPeriod from) = IsStamp from
IsLawful (PutEstimate estimate) = IsPutEstimate estimate
IsLawful (DropEstimate day) = IsDay day
IsLawful (PutMeasurement measurement) = IsPutMeasurement measurement
IsLawful (DropMeasurement number) = IsMeasurementNumber number
IsLawful (Review from to) = IsReviewSpan from to
IsLawful (Decide from to decision) = IsReviewSpan from to
IsLawful (SetEdition day least) = IsSetEdition day least
