-- What was read stands in front of what is left, which gets shorter.
use Rattle.std.proofs.Common.{◌+◌, ◌≤◌, length}
use Rattle.rating_tables.specs.Lines.{kept_lines}
use Rattle.rdb_records.proofs.ReadLemmas.{Reads}
use Rattle.rdb_records.proofs.units.read_rows.Given as goal

abbrev pub invariant-loop-line : goal.invariant-loop-line
invariant-loop-line l = record {
  reads : Reads l.site l.columns (kept_lines l.passed l.text) l.found.readings.items l.found.skipped l.before (kept_lines l.number l.rest);
  lines : l.number + length l.rest ≤ l.passed + length l.text;
  counted : l.found.skipped + length l.rest ≤ length l.text;
}

abbrev pub decreases-loop-line : goal.decreases-loop-line
decreases-loop-line l = length l.rest
