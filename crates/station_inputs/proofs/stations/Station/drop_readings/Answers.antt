-- The readings without those of the span keep to what they must.
use Rattle.station_inputs.proofs.KeptLemmas.{readings_dropped}
use Rattle.station_inputs.proofs.stations.Station.drop_readings.Goals as goal

pub invariant_of-self : goal.invariant_of-self
invariant_of-self c = readings_dropped _ c.args.from c.args.to c.drop_span-count.new.self.list c.self.invariant c.drop_span-count.ensures.list

pub returns-clause-kept : goal.returns-clause-kept
returns-clause-kept c = readings_dropped _ c.args.from c.args.to c.drop_span-count.new.self.list c.self.invariant c.drop_span-count.ensures.list
