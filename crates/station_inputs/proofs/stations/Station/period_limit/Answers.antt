-- One more passes where no period begins at its start.
use Rattle.std.proofs.Common.{ap, sym, ◌∙◌}
use Rattle.ratings.specs.Spans.{Span}
use Rattle.station_inputs.specs.KeptStation.{KeptStation}
use Rattle.station_inputs.proofs.CountLemmas.{period_count}
use Rattle.station_inputs.proofs.stations.Station.period_limit.Goals as goal

pub returns : goal.returns
returns c =
    rw (c.limited.ensures, c.has_period_from-there.ensures, ap (λ (p : Span). p.from) c.period.view_is, c.periods-count.ensures.periods ∙ ap (λ (k : KeptStation). k.station.ratings.periods) c.self.view_is)
    (sym (period_count c.args.self.now.station c.args.period.now c.site-site.ensures.kept))
