-- The lines of an RDB text that count: each line is ended by LF or CR LF, the last may lack its end, and comments and
-- empty lines are passed over but numbered.
use Rattle.std.specs.Prelude.{◌≡◌, ◌≢◌, ℕ, suc, Bool, true, false, not, ◌&&◌, ◌==◌, if◌then◌else◌, List, [], ◌∷◌, filter, All}

-- whether a text begins with LF
abbrev pub begins_with_feed : List ℕ → Bool
begins_with_feed [] = false
begins_with_feed (b ∷ text) = b == 10

-- lines with a byte in front of the first
abbrev pub in_front : ℕ → List (List ℕ) → List (List ℕ)
in_front b [] = (b ∷ []) ∷ []
in_front b (line ∷ lines) = (b ∷ line) ∷ lines

-- the lines of a text without their ends: LF ends a line, and a CR right before it is part of the end
unfoldable pub lines_of : List ℕ → List (List ℕ)
lines_of [] = []
lines_of (b ∷ text) =
    if b == 10 then [] ∷ lines_of text
    else (if (b == 13) && begins_with_feed text then lines_of text else in_front b (lines_of text))

-- a line without a CR at its end
abbrev pub without_return : List ℕ → List ℕ
without_return [] = []
without_return (b ∷ []) = if b == 13 then [] else b ∷ []
without_return (b ∷ c ∷ line) = b ∷ without_return (c ∷ line)

-- lines with their numbers, behind the number of those passed
unfoldable pub numbered : ℕ → List (List ℕ) → List (ℕ × List ℕ)
numbered passed [] = []
numbered passed (line ∷ lines) = (suc passed, line) ∷ numbered (suc passed) lines

-- a line counts unless it is empty or begins with `#`
abbrev pub is_kept : List ℕ → Bool
is_kept [] = false
is_kept (b ∷ line) = not (b == 35)

-- a line that counts, of which no byte ends a line
abbrev pub IsKept : List ℕ → Type 0
IsKept line = (is_kept line ≡ true) × All (λ b. b ≢ 10) line

-- the lines of a text that count, with their numbers
abbrev pub kept_lines : ℕ → List ℕ → List (ℕ × List ℕ)
kept_lines passed text = filter (λ line. is_kept line.1) (numbered passed (lines_of text))
