-- One more passes where no entry stands at the instant.
use Rattle.std.proofs.Common.{sym}
use Rattle.station_inputs.proofs.CountLemmas.{entry_count}
use Rattle.station_inputs.proofs.stations.Station.entry_limit.Goals as goal

pub returns : goal.returns
returns c = λ entry at.
    rw (c.limited.ensures, c.has_entry_at-there.ensures, sym at, c.entries-count.ensures.entries)
    (sym (entry_count c.args.self.now.station c.args.which entry c.site-site.ensures.kept c.requires))
