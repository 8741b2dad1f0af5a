use Rattle.std.specs.Prelude.{◌≡◌, take, IfSome}
use Rattle.day_cells.specs.Spans.{with_days, IsSpan}
use Rattle.recompute.proofs.stations.with_days.Given as goal

abbrev pub invariant-loop-day : goal.invariant-loop-day
invariant-loop-day l = record { value : l.wide ≡ with_days l.fn.span (take l.day-index l.days); span : IfSome l.wide IsSpan }
