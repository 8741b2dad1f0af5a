use Rattle.std.specs.Prelude.{◌≡◌, ◌≤ℤ◌, take, IfSome}
use Rattle.draw.specs.Spreads.{spread_of}
use Rattle.draw.proofs.spreads.spread_of.Given as goal

-- the spread so far is that of the rows so far
abbrev pub invariant-loop-row : goal.invariant-loop-row
invariant-loop-row l = record {
  value : l.spread ≡ spread_of l.quantity (take l.row-index l.rows);
  ordered : IfSome l.spread (λ ends. ends.0 ≤ℤ ends.1);
}
