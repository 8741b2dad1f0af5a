-- The draws of a trial, which stand for chance and come from its number alone.
use Rattle.std.specs.Prelude.{ℕ, zero, suc, ◌+◌, ◌*◌, ◌^◌, ◌%◌}

-- the draw behind another one
abbrev pub draw_behind : ℕ → ℕ
draw_behind x = (x * 1_103_515_245 + 12_345) % 2 ^ 31

-- the draw of a place, from 1 on, that comes from a number
unfoldable pub draw_at : ℕ → ℕ → ℕ
draw_at number zero = number
draw_at number (suc place) = draw_behind (draw_at number place)

-- the number that draws come from, and how many were made
pub record Drawn : Type 0 where
  pub number : ℕ
  pub made : ℕ
