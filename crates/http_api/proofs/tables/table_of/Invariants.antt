use Rattle.std.proofs.Common.{◌≡◌, map, take}
use Rattle.http_api.specs.Columns.{IsBetweenRows, given}
use Rattle.http_api.specs.Tables.{row_of, table_text}
use Rattle.http_api.proofs.tables.table_of.Given as goal

-- the rows of the days so far were written
abbrev pub invariant-loop-day : goal.invariant-loop-day
invariant-loop-day l = record {
  rows : given l.writer ≡ table_text (map row_of (take l.day-index l.days));
  between : IsBetweenRows l.writer;
}
