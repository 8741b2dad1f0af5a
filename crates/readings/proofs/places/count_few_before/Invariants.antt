use Rattle.std.proofs.Common.{length, ◌-◌, ◌≤◌}
use Rattle.readings.proofs.places.count_few_before.Given as goal

abbrev pub invariant-loop-end : goal.invariant-loop-end
invariant-loop-end l = 8 ≤ l.end

abbrev pub decreases-loop-end : goal.decreases-loop-end
decreases-loop-end l = length l.list - l.end
