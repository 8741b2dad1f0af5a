-- The readings that are put are stages at stamps, and so are all then.
use Rattle.station_inputs.proofs.KeptLemmas.{readings_put}
use Rattle.station_inputs.proofs.stations.Station.put.Goals as goal

pub invariant_of-self : goal.invariant_of-self
invariant_of-self c = readings_put _ c.args.readings.now c.put_all.new.self.list c.self.invariant c.requires.lawful c.put_all.ensures.list

pub returns-clause-kept : goal.returns-clause-kept
returns-clause-kept c = readings_put _ c.args.readings.now c.put_all.new.self.list c.self.invariant c.requires.lawful c.put_all.ensures.list
