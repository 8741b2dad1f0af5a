-- The estimates with this one keep to what they must.
use Rattle.station_inputs.proofs.KeptLemmas.{estimate_put}
use Rattle.station_inputs.proofs.stations.Station.put_estimate.Goals as goal

pub invariant_of-self : goal.invariant_of-self
invariant_of-self c = estimate_put _ c.args.estimate c.put.new.self.list c.self.invariant c.requires.lawful c.put.ensures.list

pub returns-clause-kept : goal.returns-clause-kept
returns-clause-kept c = estimate_put _ c.args.estimate c.put.new.self.list c.self.invariant c.requires.lawful c.put.ensures.list
