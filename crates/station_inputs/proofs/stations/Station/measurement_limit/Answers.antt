-- One more passes where no measurement has the number.
use Rattle.std.proofs.Common.{ap, sym, ◌∙◌}
use Rattle.station_inputs.specs.KeptStation.{KeptStation}
use Rattle.station_inputs.proofs.CountLemmas.{measurement_count}
use Rattle.station_inputs.proofs.stations.Station.measurement_limit.Goals as goal

pub returns : goal.returns
returns c =
    rw (c.limited.ensures, c.has_measurement-there.ensures, c.as_slice-count.ensures.list ∙ ap (λ (k : KeptStation). k.station.measurements) c.self.view_is)
    (sym (measurement_count c.args.self.now.station c.args.measurement.now c.site-site.ensures.kept))
