use Rattle.std.specs.Prelude.{◌≡◌, filter, take}
use Rattle.water_year.specs.Rows.{is_from}
use Rattle.water_year.specs.Sums.{sums_of}
use Rattle.water_year.proofs.tables.month_table.Given as goal

-- those of the month among the rows so far were summed
abbrev pub invariant-loop-row : goal.invariant-loop-row
invariant-loop-row l = l.sums ≡ sums_of (filter (is_from l.first l.last) (take l.row-index l.rows))
