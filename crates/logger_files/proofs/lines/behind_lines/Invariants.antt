-- What is left has the lines behind those that were passed.
use Rattle.std.proofs.Common.{◌≡◌, ◌≤◌, length, drop}
use Rattle.rating_tables.specs.Lines.{lines_of}
use Rattle.logger_files.proofs.lines.behind_lines.Given as goal

abbrev pub invariant-loop-passed : goal.invariant-loop-passed
invariant-loop-passed l = record { lines : lines_of l.rest ≡ drop l._passed (lines_of l.text); length : length l.rest ≤ length l.text }
