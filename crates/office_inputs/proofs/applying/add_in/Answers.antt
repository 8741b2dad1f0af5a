-- The station is put where none stands.
use Rattle.std.proofs.Common.{ap, sym, subst, ◌∙◌}
use Rattle.office_inputs.specs.Kept.{states_of, AreStations}
use Rattle.office_inputs.specs.Refusals.{reading_count}
use Rattle.office_inputs.proofs.ApplyLemmas.{states_put, count_put_kept, stations_put}
use Rattle.office_inputs.proofs.applying.add_in.Goals as goal

pub returns-clause-states : goal.returns-clause-states
returns-clause-states c = ap states_of c.put_in.ensures.items ∙ states_put c.args.station c.args.stations.now.items

pub returns-clause-count : goal.returns-clause-count
returns-clause-count c =
    ap reading_count (returns-clause-states c) ∙ count_put_kept c.args.station c.args.stations.now.items c.requires.kept.rising c.requires.absent c.requires.empty

pub returns-clause-kept : goal.returns-clause-kept
returns-clause-kept c = subst AreStations (sym c.put_in.ensures.items) (stations_put c.args.station c.args.stations.now.items c.requires.kept c.site-site.ensures.kept)
