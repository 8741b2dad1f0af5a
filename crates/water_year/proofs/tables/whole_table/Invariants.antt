use Rattle.std.specs.Prelude.{◌≡◌, take}
use Rattle.water_year.specs.Sums.{sums_of}
use Rattle.water_year.proofs.tables.whole_table.Given as goal

-- the rows so far were summed
abbrev pub invariant-loop-row : goal.invariant-loop-row
invariant-loop-row l = l.sums ≡ sums_of (take l.row-index l.rows)
