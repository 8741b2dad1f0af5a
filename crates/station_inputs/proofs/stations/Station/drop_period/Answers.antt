-- The ratings without the period keep to what they must.
use Rattle.station_inputs.proofs.KeptLemmas.{period_dropped}
use Rattle.station_inputs.proofs.stations.Station.drop_period.Goals as goal

pub invariant_of-self : goal.invariant_of-self
invariant_of-self c = period_dropped _ c.args.from c.drop_period-found.new.self.ratings c.self.invariant c.drop_period-found.ensures.ratings

pub returns-clause-kept : goal.returns-clause-kept
returns-clause-kept c = period_dropped _ c.args.from c.drop_period-found.new.self.ratings c.self.invariant c.drop_period-found.ensures.ratings
