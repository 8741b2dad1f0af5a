use Rattle.std.specs.Prelude.{◌≡◌, ◌++◌}
use Rattle.draw.specs.Frames.{first_texts, number_text}
use Rattle.draw.proofs.frames.write_each_number.Given as goal

-- the numbers so far were added
abbrev pub invariant-loop-place : goal.invariant-loop-place
invariant-loop-place l = l.out ≡ l.fn.out ++ first_texts (number_text l.numbers) l.place
