-- The lines of a logger's file, and those of them that are rows.
use Rattle.std.specs.Prelude.{ℕ, suc, List, [], ◌∷◌}

-- lines that are not empty, with their numbers, behind so many lines
unfoldable pub rows_from : ℕ → List (List ℕ) → List (ℕ × List ℕ)
rows_from passed [] = []
rows_from passed ([] ∷ lines) = rows_from (suc passed) lines
rows_from passed ((b ∷ line) ∷ lines) = (suc passed, b ∷ line) ∷ rows_from (suc passed) lines
