-- The estimates without this one keep to what they must.
use Rattle.station_inputs.proofs.KeptLemmas.{estimate_dropped}
use Rattle.station_inputs.proofs.stations.Station.drop_estimate.Goals as goal

pub invariant_of-self : goal.invariant_of-self
invariant_of-self c = estimate_dropped _ c.args.day c.take_out-found.new.self.list c.self.invariant c.take_out-found.ensures.list

pub returns-clause-kept : goal.returns-clause-kept
returns-clause-kept c = estimate_dropped _ c.args.day c.take_out-found.new.self.list c.self.invariant c.take_out-found.ensures.list
