-- One more passes where no rating has the number.
use Rattle.std.proofs.Common.{ap, sym, ◌∙◌}
use Rattle.station_inputs.specs.KeptStation.{KeptStation}
use Rattle.station_inputs.proofs.CountLemmas.{rating_count}
use Rattle.station_inputs.proofs.stations.Station.rating_limit.Goals as goal

pub returns : goal.returns
returns c = λ table.
    rw (c.limited.ensures, c.has_rating-there.ensures, c.tables-count.ensures.tables ∙ ap (λ (k : KeptStation). k.station.ratings.tables) c.self.view_is)
    (sym (rating_count c.args.self.now.station (record { number = c.args.rating; rows = table }) c.site-site.ensures.kept))
