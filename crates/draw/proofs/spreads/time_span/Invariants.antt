use Rattle.std.specs.Prelude.{◌≡◌, take}
use Rattle.draw.specs.Spreads.{time_span}
use Rattle.draw.proofs.spreads.time_span.Given as goal

-- the span so far is that of the rows so far
abbrev pub invariant-loop-row : goal.invariant-loop-row
invariant-loop-row l = l.span ≡ time_span l.zone (take l.row-index l.rows)
