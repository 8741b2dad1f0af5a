use Rattle.std.specs.Prelude.{◌≡◌, take}
use Rattle.draw.specs.Curves.{samples_of}
use Rattle.draw.proofs.curves.samples_of.Given as goal

-- the samples so far are those of the rows so far
abbrev pub invariant-loop-row : goal.invariant-loop-row
invariant-loop-row l = l.samples.items ≡ samples_of (take l.row-index l.rows)
