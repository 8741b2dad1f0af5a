-- The rows so far are written.
use Rattle.std.proofs.Common.{◌≡◌, ◌∷◌, ◌++◌, flat_map, take}
use Rattle.ledger.specs.Figures.{pair_row, row_text}
use Rattle.ledger.proofs.values.write_further_pairs.Given as goal

abbrev pub invariant-loop-pair : goal.invariant-loop-pair
invariant-loop-pair l = l.out ≡ l.initial.out ++ flat_map (λ pair. 44 ∷ row_text (pair_row pair)) (take l.pair-index l.pairs)
