-- What was found stands in front of what is left, which gets shorter.
use Rattle.std.proofs.Common.{◌+◌, ◌≤◌, length, None}
use Rattle.rating_tables.specs.Lines.{lines_of}
use Rattle.logger_files.specs.Lines.{rows_from}
use Rattle.logger_files.specs.Rows.{outcomes}
use Rattle.logger_files.proofs.BringLemmas.{Finds}
use Rattle.logger_files.proofs.bringing.judge_rows.Given as goal

abbrev pub invariant-loop-rest : goal.invariant-loop-rest
invariant-loop-rest l = record {
  finds : Finds l.profile l.columns (outcomes l.profile l.columns None (rows_from (l.profile.skip + 1) (lines_of l.text))) l.found.readings.items l.found.left l.before (rows_from l.number (lines_of l.rest));
  lines : l.number + length l.rest ≤ l.profile.skip + 1 + length l.text;
}

abbrev pub decreases-loop-rest : goal.decreases-loop-rest
decreases-loop-rest l = length l.rest
