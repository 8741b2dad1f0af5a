use Rattle.std.proofs.Common.{◌≡◌, ◌++◌, take, filter}
use Rattle.readings.specs.Readings.{is_used}
use Rattle.readings.proofs.equality.behind_used.Given as goal

abbrev pub invariant-loop-reading : goal.invariant-loop-reading
invariant-loop-reading l = l.list ≡ filter is_used (take l.reading-index l.readings) ++ l.rest
