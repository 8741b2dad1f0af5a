use Rattle.std.specs.Prelude.{◌≡◌, ◌++◌, length, take}
use Rattle.drawings.specs.Columns.{path_text}
use Rattle.drawings.proofs.columns.write_path.Given as goal

-- the path so far and that of the rest are the whole path, and the text as it was stands in front
abbrev pub invariant-loop-rest : goal.invariant-loop-rest
invariant-loop-rest l = record {
  whole : l.out ++ path_text l.rest ≡ l.fn.out ++ path_text l.points;
  front : take (length l.fn.out) l.out ≡ l.fn.out;
}

abbrev pub decreases-loop-rest : goal.decreases-loop-rest
decreases-loop-rest l = length l.rest
