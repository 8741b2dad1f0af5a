-- That an edit is lawful has at most one proof, so that an edit keeps it.
use Rattle.std.specs.Prelude.{List, Option, ℕ, ℤ}
use Rattle.std.proofs.Common.{ap, ◌∙◌}
use Rattle.std.proofs.Props.{props}
use Rattle.civil_days.specs.Starts.{IsZone}
use Rattle.civil_days.proofs.ZoneLemmas.{IsZone-prop}
use Rattle.edits.specs.Lawful.{IsLawful, AreSettings, ArePutReadings, IsMeasurementNumber, IsPutCurve, IsPutEstimate, IsPutMeasurement, IsPutPeriod, IsRatingNumber, IsReadingSpan, IsReviewSpan, IsSetEdition, IsSetNumber, IsStationZone}
use Rattle.edits.specs.Texts.{IsName}
use Rattle.edits.specs.declared.content.What.{What}
use Rattle.edits.specs.declared.content.What.TheVariants.{AddStation, SetStation, PutReadings, DropReadings, FlagReadings, PutCorrection, DropCorrection, PutShift, DropShift, AddRating, PutPeriod, DropPeriod, PutEstimate, DropEstimate, PutMeasurement, DropMeasurement, Review, Decide, SetEdition}
use Rattle.fixed_units.specs.Quantities.{IsDay, IsStamp}
use Rattle.edits.specs.declared.estimates.Estimate.{Estimate}
use Rattle.edits.specs.declared.measurements.Measurement.{Measurement}
use Rattle.fixed_units.specs.declared.readings.Reading.{Reading}
use Rattle.rating_tables.specs.Table.{Row, IsRating}
use Rattle.ratings.specs.Spans.{Span}

abbrev zone_of : (text : List ℕ) → IsName text → IsZone text → IsStationZone text
zone_of text name zone = record { printed = name; is = zone }

name_prop : (text : List ℕ) → IsProp (IsName text)
name_prop text = Prim.hlevel props

IsStationZone-prop : (text : List ℕ) → IsProp (IsStationZone text)
IsStationZone-prop text a b =
    ap (λ (x : IsName text). zone_of text x a.is) (name_prop text a.printed b.printed) ∙ ap (λ (x : IsZone text). zone_of text b.printed x) (IsZone-prop text a.is b.is)

settings_prop : (name : List ℕ) (gap : ℕ) (stages discharges : List ℕ) → IsProp (AreSettings name gap stages discharges)
settings_prop name gap stages discharges = Prim.hlevel props

readings_prop : (readings : List Reading) → IsProp (ArePutReadings readings)
readings_prop readings = Prim.hlevel props

span_prop : (from to : ℤ) → IsProp (IsReadingSpan from to)
span_prop from to = Prim.hlevel props

put_correction_prop : (set : ℕ) (at : ℤ) (curve : List (ℤ × ℤ)) → IsProp (IsSetNumber set × IsStamp at × IsPutCurve curve)
put_correction_prop set at curve = Prim.hlevel props

drop_correction_prop : (set : ℕ) (at : ℤ) → IsProp (IsSetNumber set × IsStamp at)
drop_correction_prop set at = Prim.hlevel props

put_shift_prop : (at : ℤ) (curve : List (ℤ × ℤ)) → IsProp (IsStamp at × IsPutCurve curve)
put_shift_prop at curve = Prim.hlevel props

stamp_prop : (at : ℤ) → IsProp (IsStamp at)
stamp_prop at = Prim.hlevel props

add_rating_prop : (rating : ℕ) (table : List Row) → IsProp (IsRatingNumber rating × IsRating table)
add_rating_prop rating table = Prim.hlevel props

period_prop : (period : Span) → IsProp (IsPutPeriod period)
period_prop period = Prim.hlevel props

estimate_prop : (estimate : Estimate) → IsProp (IsPutEstimate estimate)
estimate_prop estimate = Prim.hlevel props

day_prop : (day : ℤ) → IsProp (IsDay day)
day_prop day = Prim.hlevel props

measurement_prop : (measurement : Measurement) → IsProp (IsPutMeasurement measurement)
measurement_prop measurement = Prim.hlevel props

number_prop : (number : ℕ) → IsProp (IsMeasurementNumber number)
number_prop number = Prim.hlevel props

review_prop : (from to : ℤ) → IsProp (IsReviewSpan from to)
review_prop from to = Prim.hlevel props

edition_prop : (day : ℤ) (least : Option ℕ) → IsProp (IsSetEdition day least)
edition_prop day least = Prim.hlevel props

pub IsLawful-prop : (what : What) → IsProp (IsLawful what)
IsLawful-prop (AddStation name zone gap stages discharges) a b =
    ap (λ (x : AreSettings name gap stages discharges). (x, a.1)) (settings_prop name gap stages discharges a.0 b.0) ∙ ap (λ (x : IsStationZone zone). (b.0, x)) (IsStationZone-prop zone a.1 b.1)
IsLawful-prop (SetStation name gap stages discharges) a b = settings_prop name gap stages discharges a b
IsLawful-prop (PutReadings readings) a b = readings_prop readings a b
IsLawful-prop (DropReadings from to) a b = span_prop from to a b
IsLawful-prop (FlagReadings from to flag) a b = span_prop from to a b
IsLawful-prop (PutCorrection set at curve prorate) a b = put_correction_prop set at curve a b
IsLawful-prop (DropCorrection set at) a b = drop_correction_prop set at a b
IsLawful-prop (PutShift at curve prorate) a b = put_shift_prop at curve a b
IsLawful-prop (DropShift at) a b = stamp_prop at a b
IsLawful-prop (AddRating rating table) a b = add_rating_prop rating table a b
IsLawful-prop (PutPeriod period) a b = period_prop period a b
IsLawful-prop (DropPeriod from) a b = stamp_prop from a b
IsLawful-prop (PutEstimate estimate) a b = estimate_prop estimate a b
IsLawful-prop (DropEstimate day) a b = day_prop day a b
IsLawful-prop (PutMeasurement measurement) a b = measurement_prop measurement a b
IsLawful-prop (DropMeasurement number) a b = number_prop number a b
IsLawful-prop (Review from to) a b = review_prop from to a b
IsLawful-prop (Decide from to decision) a b = review_prop from to a b
IsLawful-prop (SetEdition day least) a b = edition_prop day least a b
