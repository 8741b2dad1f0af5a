-- The periods that meet the time are of ratings that are there.
use Rattle.ratings.proofs.CuttingLemmas.{met_known}
use Rattle.ratings.proofs.station_ratings.Ratings.has_parts.Goals as goal

pub are_cut-requires : goal.are_cut-requires
are_cut-requires c =
    met_known c.args.lo c.args.hi c.self.inside.tables.list c.self.inside.periods.list c.meeting.result.now c.self.invariant.known c.meeting.ensures
