-- The lines that count are all in what is left, which gets shorter.
use Rattle.std.proofs.Common.{◌≡◌, ◌+◌, ◌≤◌, length}
use Rattle.rating_tables.specs.Lines.{kept_lines}
use Rattle.rdb_records.proofs.lines.next_line.Given as goal

abbrev pub invariant-loop-rest : goal.invariant-loop-rest
invariant-loop-rest l = record {
  lines : kept_lines l.passed l.text ≡ kept_lines l.number l.rest;
  counted : l.number + length l.rest ≤ l.passed + length l.text;
  shorter : length l.rest ≤ length l.text;
}

abbrev pub decreases-loop-rest : goal.decreases-loop-rest
decreases-loop-rest l = length l.rest
