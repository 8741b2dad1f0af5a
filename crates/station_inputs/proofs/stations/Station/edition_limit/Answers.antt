-- One more passes where no edition is of the day.
use Rattle.std.proofs.Common.{ap, sym, ◌∙◌}
use Rattle.station_inputs.specs.KeptStation.{KeptStation}
use Rattle.station_inputs.proofs.CountLemmas.{edition_count}
use Rattle.station_inputs.proofs.stations.Station.edition_limit.Goals as goal

pub returns : goal.returns
returns c =
    rw (c.limited.ensures, c.has_edition-there.ensures, c.as_slice-count.ensures.list ∙ ap (λ (k : KeptStation). k.station.editions) c.self.view_is)
    (sym (edition_count c.args.self.now.station c.args.edition.now c.site-site.ensures.kept))
