use Rattle.std.specs.Prelude.{All, take, ◌≤ℤ◌}
use Rattle.day_cells.proofs.columns.latest.Given as goal

abbrev pub invariant-loop-other : goal.invariant-loop-other
invariant-loop-other l = record { high : l.fn.day ≤ℤ l.last; all : All (λ d. d ≤ℤ l.last) (take l.other-index l.days) }
