-- Each kind is read by its own row.
use Rattle.edit_bodies.proofs.kinds.take_what.Goals as goal

pub returns-in-AddStation-clause-read : goal.returns-in-AddStation-clause-read
returns-in-AddStation-clause-read c = rw c.in-AddStation.is c.take_addition.ensures.read

pub returns-in-AddStation-clause-lawful : goal.returns-in-AddStation-clause-lawful
returns-in-AddStation-clause-lawful c = c.take_addition.ensures.lawful

pub returns-in-SetStation-clause-read : goal.returns-in-SetStation-clause-read
returns-in-SetStation-clause-read c = rw c.in-SetStation.is c.take_setting.ensures.read

pub returns-in-SetStation-clause-lawful : goal.returns-in-SetStation-clause-lawful
returns-in-SetStation-clause-lawful c = c.take_setting.ensures.lawful

pub returns-in-PutReadings-clause-read : goal.returns-in-PutReadings-clause-read
returns-in-PutReadings-clause-read c = rw c.in-PutReadings.is c.take_put.ensures.read

pub returns-in-PutReadings-clause-lawful : goal.returns-in-PutReadings-clause-lawful
returns-in-PutReadings-clause-lawful c = c.take_put.ensures.lawful

pub returns-in-DropReadings-clause-read : goal.returns-in-DropReadings-clause-read
returns-in-DropReadings-clause-read c = rw c.in-DropReadings.is c.take_dropped_span.ensures.read

pub returns-in-DropReadings-clause-lawful : goal.returns-in-DropReadings-clause-lawful
returns-in-DropReadings-clause-lawful c = c.take_dropped_span.ensures.lawful

pub returns-in-FlagReadings-clause-read : goal.returns-in-FlagReadings-clause-read
returns-in-FlagReadings-clause-read c = rw c.in-FlagReadings.is c.take_flagged_span.ensures.read

pub returns-in-FlagReadings-clause-lawful : goal.returns-in-FlagReadings-clause-lawful
returns-in-FlagReadings-clause-lawful c = c.take_flagged_span.ensures.lawful

pub returns-in-PutCorrection-clause-read : goal.returns-in-PutCorrection-clause-read
returns-in-PutCorrection-clause-read c = rw c.in-PutCorrection.is c.take_correction.ensures.read

pub returns-in-PutCorrection-clause-lawful : goal.returns-in-PutCorrection-clause-lawful
returns-in-PutCorrection-clause-lawful c = c.take_correction.ensures.lawful

pub returns-in-DropCorrection-clause-read : goal.returns-in-DropCorrection-clause-read
returns-in-DropCorrection-clause-read c = rw c.in-DropCorrection.is c.take_dropped_correction.ensures.read

pub returns-in-DropCorrection-clause-lawful : goal.returns-in-DropCorrection-clause-lawful
returns-in-DropCorrection-clause-lawful c = c.take_dropped_correction.ensures.lawful

pub returns-in-PutShift-clause-read : goal.returns-in-PutShift-clause-read
returns-in-PutShift-clause-read c = rw c.in-PutShift.is c.take_shift.ensures.read

pub returns-in-PutShift-clause-lawful : goal.returns-in-PutShift-clause-lawful
returns-in-PutShift-clause-lawful c = c.take_shift.ensures.lawful

pub returns-in-DropShift-clause-read : goal.returns-in-DropShift-clause-read
returns-in-DropShift-clause-read c = rw c.in-DropShift.is c.take_dropped_shift.ensures.read

pub returns-in-DropShift-clause-lawful : goal.returns-in-DropShift-clause-lawful
returns-in-DropShift-clause-lawful c = c.take_dropped_shift.ensures.lawful

pub returns-in-AddRating-clause-read : goal.returns-in-AddRating-clause-read
returns-in-AddRating-clause-read c = rw c.in-AddRating.is c.take_rating.ensures.read

pub returns-in-AddRating-clause-lawful : goal.returns-in-AddRating-clause-lawful
returns-in-AddRating-clause-lawful c = c.take_rating.ensures.lawful

pub returns-in-PutPeriod-clause-read : goal.returns-in-PutPeriod-clause-read
returns-in-PutPeriod-clause-read c = rw c.in-PutPeriod.is c.take_period.ensures.read

pub returns-in-PutPeriod-clause-lawful : goal.returns-in-PutPeriod-clause-lawful
returns-in-PutPeriod-clause-lawful c = c.take_period.ensures.lawful

pub returns-in-DropPeriod-clause-read : goal.returns-in-DropPeriod-clause-read
returns-in-DropPeriod-clause-read c = rw c.in-DropPeriod.is c.take_dropped_period.ensures.read

pub returns-in-DropPeriod-clause-lawful : goal.returns-in-DropPeriod-clause-lawful
returns-in-DropPeriod-clause-lawful c = c.take_dropped_period.ensures.lawful

pub returns-in-PutEstimate-clause-read : goal.returns-in-PutEstimate-clause-read
returns-in-PutEstimate-clause-read c = rw c.in-PutEstimate.is c.take_estimate.ensures.read

pub returns-in-PutEstimate-clause-lawful : goal.returns-in-PutEstimate-clause-lawful
returns-in-PutEstimate-clause-lawful c = c.take_estimate.ensures.lawful

pub returns-in-DropEstimate-clause-read : goal.returns-in-DropEstimate-clause-read
returns-in-DropEstimate-clause-read c = rw c.in-DropEstimate.is c.take_dropped_estimate.ensures.read

pub returns-in-DropEstimate-clause-lawful : goal.returns-in-DropEstimate-clause-lawful
returns-in-DropEstimate-clause-lawful c = c.take_dropped_estimate.ensures.lawful

pub returns-in-PutMeasurement-clause-read : goal.returns-in-PutMeasurement-clause-read
returns-in-PutMeasurement-clause-read c = rw c.in-PutMeasurement.is c.take_measurement.ensures.read

pub returns-in-PutMeasurement-clause-lawful : goal.returns-in-PutMeasurement-clause-lawful
returns-in-PutMeasurement-clause-lawful c = c.take_measurement.ensures.lawful

pub returns-in-DropMeasurement-clause-read : goal.returns-in-DropMeasurement-clause-read
returns-in-DropMeasurement-clause-read c = rw c.in-DropMeasurement.is c.take_dropped_measurement.ensures.read

pub returns-in-DropMeasurement-clause-lawful : goal.returns-in-DropMeasurement-clause-lawful
returns-in-DropMeasurement-clause-lawful c = c.take_dropped_measurement.ensures.lawful

pub returns-in-Review-clause-read : goal.returns-in-Review-clause-read
returns-in-Review-clause-read c = rw c.in-Review.is c.take_review.ensures.read

pub returns-in-Review-clause-lawful : goal.returns-in-Review-clause-lawful
returns-in-Review-clause-lawful c = c.take_review.ensures.lawful

pub returns-in-Decide-clause-read : goal.returns-in-Decide-clause-read
returns-in-Decide-clause-read c = rw c.in-Decide.is c.take_decided.ensures.read

pub returns-in-Decide-clause-lawful : goal.returns-in-Decide-clause-lawful
returns-in-Decide-clause-lawful c = c.take_decided.ensures.lawful

pub returns-in-SetEdition-clause-read : goal.returns-in-SetEdition-clause-read
returns-in-SetEdition-clause-read c = rw c.in-SetEdition.is c.take_edition.ensures.read

pub returns-in-SetEdition-clause-lawful : goal.returns-in-SetEdition-clause-lawful
returns-in-SetEdition-clause-lawful c = c.take_edition.ensures.lawful
