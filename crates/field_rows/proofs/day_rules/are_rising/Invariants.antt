use Rattle.std.proofs.Common.{length}
use Rattle.readings.specs.Readings.{IsRising}
use Rattle.field_rows.proofs.day_rules.are_rising.Given as goal

abbrev pub invariant-loop-rest : goal.invariant-loop-rest
invariant-loop-rest l = IsRising l.rest → IsRising l.readings

abbrev pub decreases-loop-rest : goal.decreases-loop-rest
decreases-loop-rest l = length l.rest
