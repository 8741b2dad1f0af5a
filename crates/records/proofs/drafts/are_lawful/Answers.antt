use Rattle.records.proofs.drafts.are_lawful.Goals as goal

pub returns-in-Addition-clause-told : goal.returns-in-Addition-clause-told
returns-in-Addition-clause-told c = rw c.in-Addition.is c.is_addition.ensures.told

pub returns-in-Setting-clause-told : goal.returns-in-Setting-clause-told
returns-in-Setting-clause-told c = rw c.in-Setting.is c.are_settings.ensures

pub returns-in-Setting-clause-memory : goal.returns-in-Setting-clause-memory
returns-in-Setting-clause-memory c = tt

pub returns-in-Put-clause-told : goal.returns-in-Put-clause-told
returns-in-Put-clause-told c = rw c.in-Put.is c.are_put_pieces.ensures

pub returns-in-Put-clause-memory : goal.returns-in-Put-clause-memory
returns-in-Put-clause-memory c = tt

pub returns-in-Shift-clause-told : goal.returns-in-Shift-clause-told
returns-in-Shift-clause-told c = rw c.in-Shift.is c.is_entry-in-Shift.ensures

pub returns-in-Shift-clause-memory : goal.returns-in-Shift-clause-memory
returns-in-Shift-clause-memory c = tt

pub returns-in-Period-clause-told : goal.returns-in-Period-clause-told
returns-in-Period-clause-told c = rw c.in-Period.is c.is_period.ensures

pub returns-in-Period-clause-memory : goal.returns-in-Period-clause-memory
returns-in-Period-clause-memory c = tt

pub returns-in-Estimate-clause-told : goal.returns-in-Estimate-clause-told
returns-in-Estimate-clause-told c = rw c.in-Estimate.is c.is_estimate.ensures

pub returns-in-Estimate-clause-memory : goal.returns-in-Estimate-clause-memory
returns-in-Estimate-clause-memory c = tt

pub returns-in-Measurement-clause-told : goal.returns-in-Measurement-clause-told
returns-in-Measurement-clause-told c = rw c.in-Measurement.is c.is_measurement.ensures

pub returns-in-Measurement-clause-memory : goal.returns-in-Measurement-clause-memory
returns-in-Measurement-clause-memory c = tt

pub returns-in-DroppedMeasurement-clause-told : goal.returns-in-DroppedMeasurement-clause-told
returns-in-DroppedMeasurement-clause-told c = rw c.in-DroppedMeasurement.is c.is_measurement_number.ensures

pub returns-in-DroppedMeasurement-clause-memory : goal.returns-in-DroppedMeasurement-clause-memory
returns-in-DroppedMeasurement-clause-memory c = tt
