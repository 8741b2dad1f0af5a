use Rattle.std.proofs.Common.{◌-◌, ◌<◌, ◌≤◌, ◌≤ℤ◌, ◌<ℤ◌, length}
use Rattle.civil_days.specs.Runs.{begin_at}
use Rattle.civil_days.proofs.runs.run_on.Given as goal

abbrev pub invariant-loop-high : goal.invariant-loop-high
invariant-loop-high l = record {
  order : l.low < l.high;
  bound : l.high ≤ length l.runs;
  from : begin_at l.runs l.low ≤ℤ l.at;
  until : l.high < length l.runs → l.at <ℤ begin_at l.runs l.high;
}

abbrev pub decreases-loop-high : goal.decreases-loop-high
decreases-loop-high l = l.high - l.low
