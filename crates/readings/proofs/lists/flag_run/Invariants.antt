use Rattle.std.proofs.Common.{◌≡◌, ◌-◌, ◌++◌, true, take, drop, map}
use Rattle.gapcol.specs.Lists.{with_spare}
use Rattle.readings.specs.Readings.{flagged_where}
use Rattle.readings.proofs.lists.flag_run.Given as goal

abbrev pub invariant-loop-place : goal.invariant-loop-place
invariant-loop-place l =
    l.kept ≡ with_spare (take l.first l.fn.kept.list ++ (map (flagged_where true l.flag) (take (l.place - l.first) (drop l.first l.fn.kept.list)) ++ drop l.place l.fn.kept.list)) l.fn.kept.spare
