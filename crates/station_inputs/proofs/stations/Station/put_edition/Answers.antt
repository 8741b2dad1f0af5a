-- The editions with this one keep to what they must.
use Rattle.station_inputs.proofs.KeptLemmas.{edition_put}
use Rattle.station_inputs.proofs.stations.Station.put_edition.Goals as goal

pub invariant_of-self : goal.invariant_of-self
invariant_of-self c = edition_put _ c.args.edition c.put.new.self.list c.self.invariant c.requires.lawful c.put.ensures.list

pub returns-clause-kept : goal.returns-clause-kept
returns-clause-kept c = edition_put _ c.args.edition c.put.new.self.list c.self.invariant c.requires.lawful c.put.ensures.list
