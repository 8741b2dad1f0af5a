use Rattle.std.specs.Prelude.{◌≡◌, ◌++◌, drop}
use Rattle.draw.specs.Curves.{gap_text}
use Rattle.draw.specs.Frames.{first_texts}
use Rattle.draw.proofs.curves.write_each_gap.Given as goal

-- the gaps before so many samples were added
abbrev pub invariant-loop-place : goal.invariant-loop-place
invariant-loop-place l = l.out ≡ l.fn.out ++ first_texts (λ k. gap_text l.gap l.times l.frame (drop k l.samples)) l.place
