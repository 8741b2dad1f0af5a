use Rattle.std.specs.Prelude.{◌≡◌, ◌+◌, drop}
use Rattle.draw.specs.Rows.{texts}
use Rattle.draw.specs.Tables.{no_row, rows_from}
use Rattle.draw.proofs.RowLemmas.{onto}
use Rattle.draw.proofs.tables.read_rows.Given as goal

-- the rows so far and those of the lines that are left are all of them
abbrev pub invariant-loop-line : goal.invariant-loop-line
invariant-loop-line l = record {
  counted : l.passed ≡ l.line-index + 1;
  so_far : onto l.rows.items (rows_from l.passed l.before (texts (drop l.line-index l.lines))) ≡ rows_from 1 no_row (texts l.lines);
}
