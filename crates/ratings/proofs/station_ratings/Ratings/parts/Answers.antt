-- The periods that meet the time are of ratings that are there, and their parts are apart.
use Rattle.ratings.proofs.CuttingLemmas.{met_known, given_parts}
use Rattle.ratings.proofs.station_ratings.Ratings.parts.Goals as goal

pub cut_all-requires-clause-known : goal.cut_all-requires-clause-known
cut_all-requires-clause-known c =
    met_known c.args.lo c.args.hi c.self.inside.tables.list c.self.inside.periods.list c.meeting.result.now c.self.invariant.known c.meeting.ensures

pub returns-clause-parts : goal.returns-clause-parts
returns-clause-parts c =
    given_parts c.cut_all.result c.args.lo c.args.hi (record { tables = c.self.inside.tables.list; periods = c.self.inside.periods.list }) c.meeting.result.now c.self.invariant
    c.meeting.ensures c.cut_all.ensures
