use Rattle.std.proofs.Common.{length, ◌-◌, ◌≤◌}
use Rattle.readings.proofs.places.stretch_about.Given as goal

abbrev pub invariant-loop-reach : goal.invariant-loop-reach
invariant-loop-reach l = 8 ≤ l.reach

abbrev pub decreases-loop-reach : goal.decreases-loop-reach
decreases-loop-reach l = length l.list - l.reach
