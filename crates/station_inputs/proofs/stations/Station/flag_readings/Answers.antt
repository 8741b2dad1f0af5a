-- The readings with those of the span flagged keep to what they must.
use Rattle.station_inputs.proofs.KeptLemmas.{readings_flagged}
use Rattle.station_inputs.proofs.stations.Station.flag_readings.Goals as goal

pub invariant_of-self : goal.invariant_of-self
invariant_of-self c = readings_flagged _ c.args.from c.args.to c.args.flag c.flag_span-count.new.self.list c.self.invariant c.flag_span-count.ensures.list

pub returns-clause-kept : goal.returns-clause-kept
returns-clause-kept c = readings_flagged _ c.args.from c.args.to c.args.flag c.flag_span-count.new.self.list c.self.invariant c.flag_span-count.ensures.list
