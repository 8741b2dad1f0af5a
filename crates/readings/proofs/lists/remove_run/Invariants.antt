use Rattle.std.proofs.Common.{◌≡◌, ◌+◌, ◌-◌, ◌++◌, take, drop}
use Rattle.gapcol.specs.Lists.{with_spare}
use Rattle.readings.proofs.lists.remove_run.Given as goal

abbrev pub invariant-loop : goal.invariant-loop
invariant-loop l = l.kept ≡ with_spare (take l.first l.fn.kept.list ++ drop l.counter l.fn.kept.list) (l.fn.kept.spare + (l.counter - l.first))
