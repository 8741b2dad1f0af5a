-- The measurements with this one keep to what they must.
use Rattle.station_inputs.proofs.KeptLemmas.{measurement_put}
use Rattle.station_inputs.proofs.stations.Station.put_measurement.Goals as goal

pub invariant_of-self : goal.invariant_of-self
invariant_of-self c = measurement_put _ c.args.measurement c.put.new.self.list c.self.invariant c.requires.lawful c.put.ensures.list

pub returns-clause-kept : goal.returns-clause-kept
returns-clause-kept c = measurement_put _ c.args.measurement c.put.new.self.list c.self.invariant c.requires.lawful c.put.ensures.list
