use Rattle.std.specs.Prelude.{◌≡◌, ◌++◌, take}
use Rattle.draw.specs.Marks.{each_text}
use Rattle.draw.proofs.marks.write_each.Given as goal

-- the marks of the rows so far were added
abbrev pub invariant-loop-row : goal.invariant-loop-row
invariant-loop-row l = l.out ≡ l.fn.out ++ each_text l.mark l.zone l.times l.frame (take l.row-index l.rows)
