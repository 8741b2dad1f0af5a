-- The figures so far are written.
use Rattle.std.proofs.Common.{◌≡◌, ◌++◌, flat_map, map, take}
use Rattle.ledger.specs.Figures.{figure, figure_text}
use Rattle.ledger.proofs.figures.write_each.Given as goal

abbrev pub invariant-loop-one : goal.invariant-loop-one
invariant-loop-one l = l.out ≡ l.initial.out ++ flat_map (figure_text l.style) (map figure (take l.one-index l.figures))
