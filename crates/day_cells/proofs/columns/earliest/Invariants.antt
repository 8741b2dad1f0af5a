use Rattle.std.specs.Prelude.{All, take, ◌≤ℤ◌}
use Rattle.day_cells.proofs.columns.earliest.Given as goal

abbrev pub invariant-loop-other : goal.invariant-loop-other
invariant-loop-other l = record { low : l.first ≤ℤ l.fn.day; all : All (λ d. l.first ≤ℤ d) (take l.other-index l.days) }
