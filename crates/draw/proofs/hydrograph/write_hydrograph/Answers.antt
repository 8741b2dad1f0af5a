-- The axis goes over the span of the rows.
use Rattle.std.proofs.Common.{◌∙◌, ap, subst, ℤ}
use Rattle.std.specs.Prelude.{Option}
use Rattle.draw.specs.Frames.{IsTimeAxis}
use Rattle.draw.specs.Spreads.{time_span}
use Rattle.draw.proofs.hydrograph.write_hydrograph.Goals as goal

pub returns : goal.returns
returns c = (
  c.in-Some.times,
  subst (λ (span : Option (ℤ × ℤ)). IsTimeAxis span c.in-Some.times) (c.time_span.ensures ∙ ap (time_span c.args.table.now.station.zone) c.deref.ensures.value) c.in-Some.ensures,
  c.in_ok-write_picture.ensures,
)
