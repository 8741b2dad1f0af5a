-- Of each kind its own function makes what an edit changes.
use Rattle.records.proofs.drafts.what_from.Goals as goal

pub addition_from-requires-clause-settings : goal.addition_from-requires-clause-settings
addition_from-requires-clause-settings c = (rw c.in-Addition.is at c.requires).0

pub addition_from-requires-clause-zone : goal.addition_from-requires-clause-zone
addition_from-requires-clause-zone c = (rw c.in-Addition.is at c.requires).1

pub returns-in-Addition : goal.returns-in-Addition
returns-in-Addition c = rw c.in-Addition.is c.addition_from.ensures

pub setting_from-requires : goal.setting_from-requires
setting_from-requires c = rw c.in-Setting.is at c.requires

pub returns-in-Setting : goal.returns-in-Setting
returns-in-Setting c = rw c.in-Setting.is c.setting_from.ensures

pub put_from-requires : goal.put_from-requires
put_from-requires c = rw c.in-Put.is at c.requires

pub returns-in-Put : goal.returns-in-Put
returns-in-Put c = rw c.in-Put.is c.put_from.ensures

pub correction_from-requires-clause-stamp : goal.correction_from-requires-clause-stamp
correction_from-requires-clause-stamp c = (rw c.in-Correction.is at c.requires).1

pub correction_from-requires-clause-curve : goal.correction_from-requires-clause-curve
correction_from-requires-clause-curve c = (rw c.in-Correction.is at c.requires).2

pub returns-in-Correction : goal.returns-in-Correction
returns-in-Correction c = rw c.in-Correction.is c.correction_from.ensures

pub shift_from-requires-clause-stamp : goal.shift_from-requires-clause-stamp
shift_from-requires-clause-stamp c = (rw c.in-Shift.is at c.requires).0

pub shift_from-requires-clause-curve : goal.shift_from-requires-clause-curve
shift_from-requires-clause-curve c = (rw c.in-Shift.is at c.requires).1

pub returns-in-Shift : goal.returns-in-Shift
returns-in-Shift c = rw c.in-Shift.is c.shift_from.ensures

pub rating_from-requires : goal.rating_from-requires
rating_from-requires c = (rw c.in-Rating.is at c.requires).1

pub returns-in-Rating : goal.returns-in-Rating
returns-in-Rating c = rw c.in-Rating.is c.rating_from.ensures

pub put_period_from-requires : goal.put_period_from-requires
put_period_from-requires c = rw c.in-Period.is at c.requires

pub returns-in-Period : goal.returns-in-Period
returns-in-Period c = rw c.in-Period.is c.put_period_from.ensures

pub put_estimate_from-requires : goal.put_estimate_from-requires
put_estimate_from-requires c = rw c.in-Estimate.is at c.requires

pub returns-in-Estimate : goal.returns-in-Estimate
returns-in-Estimate c = rw c.in-Estimate.is c.put_estimate_from.ensures

pub put_measurement_from-requires : goal.put_measurement_from-requires
put_measurement_from-requires c = rw c.in-Measurement.is at c.requires

pub returns-in-Measurement : goal.returns-in-Measurement
returns-in-Measurement c = rw c.in-Measurement.is c.put_measurement_from.ensures
