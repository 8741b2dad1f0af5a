-- Where none stands there, the series without it is the series.
use Rattle.station_inputs.proofs.SeriesLemmas.{taken}
use Rattle.station_inputs.proofs.series.drop_from.Goals as goal

pub returns : goal.returns
returns c =
    taken c.take_out-found.result c.args.at c.args.series.now.entries c.take_out-found.new.self.entries c.requires c.take_out-found.ensures.found
    c.take_out-found.ensures.ok c.take_out-found.ensures.err
