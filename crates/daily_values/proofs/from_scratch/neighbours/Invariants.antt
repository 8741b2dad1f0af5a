use Rattle.std.proofs.Common.{◌≡◌, ◌++◌, length}
use Rattle.daily_values.specs.DayValue as values
use Rattle.daily_values.proofs.from_scratch.neighbours.Given as goal

abbrev pub invariant-loop-rest : goal.invariant-loop-rest
invariant-loop-rest l = l.pairs.items ++ values.neighbours l.rest ≡ values.neighbours l.points

abbrev pub decreases-loop-rest : goal.decreases-loop-rest
decreases-loop-rest l = length l.rest
