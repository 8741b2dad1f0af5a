-- When two edits are the same: member by member.
use Rattle.std.specs.Prelude.{Bool, true, false, ◌&&◌, ◌==◌, bytes_eq, Option, Some, None, ℤ}
use Rattle.std.specs.Ordering.{int_eq}
use Rattle.curves.specs.Entries.{entry_of}
use Rattle.curves.specs.Equality.{same_entry}
use Rattle.editions.specs.Covers.{same_least}
use Rattle.edits.specs.declared.content.Edit.{Edit}
use Rattle.edits.specs.declared.content.What.{What}
use Rattle.edits.specs.declared.content.What.TheVariants.{AddStation, SetStation, PutReadings, DropReadings, FlagReadings, PutCorrection, DropCorrection, PutShift, DropShift, AddRating, PutPeriod, DropPeriod, PutEstimate, DropEstimate, PutMeasurement, DropMeasurement, Review, Decide, SetEdition}
use Rattle.edits.specs.Decisions.{decision_number}
use Rattle.edits.specs.Grades.{grade_number}
use Rattle.edits.specs.declared.estimates.Estimate.{Estimate}
use Rattle.edits.specs.declared.measurements.Measurement.{Measurement}
use Rattle.fixed_units.specs.Quantities.{same_site}
use Rattle.rating_tables.specs.RowEquality.{same_rows}
use Rattle.ratings.specs.Spans.{Span}
use Rattle.readings.specs.Equality.{same_flag, same_readings}

-- sent by the same person, under the same reference, about the same site and with the same comment
abbrev pub are_sent_alike : Edit → Edit → Bool
are_sent_alike a b =
    bytes_eq a.by b.by && (bytes_eq a.reference b.reference && (same_site a.site b.site && bytes_eq a.comment b.comment))

-- the ends are one, or there is none
abbrev pub same_end : Option ℤ → Option ℤ → Bool
same_end None None = true
same_end (Some until) (Some its_until) = int_eq until its_until
same_end _ _ = false

-- the starts, the ends and the numbers of the ratings are
abbrev pub same_period : Span → Span → Bool
same_period p q = int_eq p.from q.from && (same_end p.until q.until && p.rating == q.rating)

-- the first and the last instants, or days, are
abbrev pub same_span : ℤ → ℤ → ℤ → ℤ → Bool
same_span from to its_from its_to = int_eq from its_from && int_eq to its_to

-- the days and the discharges are
abbrev pub same_estimate : Estimate → Estimate → Bool
same_estimate a b = int_eq a.day b.day && int_eq a.discharge b.discharge

-- the numbers, the instants, the gage heights, the discharges and the grades are
abbrev pub same_measurement : Measurement → Measurement → Bool
same_measurement a b =
    a.number == b.number && (int_eq a.at b.at && (int_eq a.gage b.gage && (int_eq a.discharge b.discharge
    && grade_number a.grade == grade_number b.grade)))

-- of one kind, and each member of what is changed is the same: a zone by its text, readings by instant, stage and flag, a curve
-- by its points, and a rating by its rows
abbrev pub is_same_what : What → What → Bool
is_same_what (AddStation name zone gap stages discharges) (AddStation its_name its_zone its_gap its_stages its_discharges) =
    bytes_eq name its_name && (bytes_eq zone its_zone && (gap == its_gap
    && (bytes_eq stages its_stages && bytes_eq discharges its_discharges)))
is_same_what (SetStation name gap stages discharges) (SetStation its_name its_gap its_stages its_discharges) =
    bytes_eq name its_name && (gap == its_gap && (bytes_eq stages its_stages && bytes_eq discharges its_discharges))
is_same_what (PutReadings readings) (PutReadings its_readings) = same_readings readings its_readings
is_same_what (DropReadings from to) (DropReadings its_from its_to) = same_span from to its_from its_to
is_same_what (FlagReadings from to flag) (FlagReadings its_from its_to its_flag) = same_span from to its_from its_to && same_flag flag its_flag
is_same_what (PutCorrection set at curve prorate) (PutCorrection its_set its_at its_curve its_prorate) =
    set == its_set && same_entry (entry_of at curve prorate) (entry_of its_at its_curve its_prorate)
is_same_what (DropCorrection set at) (DropCorrection its_set its_at) = set == its_set && int_eq at its_at
is_same_what (PutShift at curve prorate) (PutShift its_at its_curve its_prorate) = same_entry (entry_of at curve prorate) (entry_of its_at its_curve its_prorate)
is_same_what (DropShift at) (DropShift its_at) = int_eq at its_at
is_same_what (AddRating rating table) (AddRating its_rating its_table) = rating == its_rating && same_rows table its_table
is_same_what (PutPeriod period) (PutPeriod its_period) = same_period period its_period
is_same_what (DropPeriod from) (DropPeriod its_from) = int_eq from its_from
is_same_what (PutEstimate estimate) (PutEstimate its_estimate) = same_estimate estimate its_estimate
is_same_what (DropEstimate day) (DropEstimate its_day) = int_eq day its_day
is_same_what (PutMeasurement measurement) (PutMeasurement its_measurement) = same_measurement measurement its_measurement
is_same_what (DropMeasurement number) (DropMeasurement its_number) = number == its_number
is_same_what (Review from to) (Review its_from its_to) = same_span from to its_from its_to
is_same_what (Decide from to decision) (Decide its_from its_to its_decision) = same_span from to its_from its_to && decision_number decision == decision_number its_decision
is_same_what (SetEdition day least) (SetEdition its_day its_least) = int_eq day its_day && same_least least its_least
is_same_what _ _ = false

-- sent alike, and they change the same
abbrev pub is_same : Edit → Edit → Bool
is_same a b = are_sent_alike a b && is_same_what a.what b.what
