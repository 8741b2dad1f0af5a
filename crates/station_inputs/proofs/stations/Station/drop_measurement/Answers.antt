-- The measurements without this one keep to what they must.
use Rattle.station_inputs.proofs.KeptLemmas.{measurement_dropped}
use Rattle.station_inputs.proofs.stations.Station.drop_measurement.Goals as goal

pub invariant_of-self : goal.invariant_of-self
invariant_of-self c = measurement_dropped _ c.args.number c.take_out-found.new.self.list c.self.invariant c.take_out-found.ensures.list

pub returns-clause-kept : goal.returns-clause-kept
returns-clause-kept c = measurement_dropped _ c.args.number c.take_out-found.new.self.list c.self.invariant c.take_out-found.ensures.list
