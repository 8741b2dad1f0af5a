-- The days that have inputs are those of readings and of estimates.
use Rattle.std.specs.Prelude.{Option, ℤ}
use Rattle.std.proofs.Common.{subst, sym}
use Rattle.station_inputs.specs.Touched.{has_inputs, IsSpanOf}
use Rattle.station_inputs.specs.Stations.{station_day}
use Rattle.station_inputs.proofs.SpanLemmas.{used_span}
use Rattle.station_inputs.proofs.stations.Station.used_span.Goals as goal

pub returns : goal.returns
returns c =
    subst (λ (span : Option (ℤ × ℤ)). IsSpanOf (λ day. has_inputs (station_day c.args.self.now.station day)) span) (sym c.joined.ensures)
    (used_span c.args.self.now.station c.read_span.result c.estimated_span.result c.read_span.ensures c.estimated_span.ensures)
