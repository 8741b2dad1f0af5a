-- The rows so far are written.
use Rattle.std.proofs.Common.{◌≡◌, ◌∷◌, ◌++◌, flat_map, take}
use Rattle.ledger.specs.Figures.{reading_row, row_text}
use Rattle.ledger.proofs.values.write_further_readings.Given as goal

abbrev pub invariant-loop-reading : goal.invariant-loop-reading
invariant-loop-reading l = l.out ≡ l.initial.out ++ flat_map (λ reading. 44 ∷ row_text (reading_row reading)) (take l.reading-index l.readings)
