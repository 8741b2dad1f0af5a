use Rattle.std.proofs.Common.{◌+◌, ◌-◌, ◌*◌, ◌≤◌}
use Rattle.std.specs.List.{flat_map, range_with_len}
use Rattle.trial.specs.Phases.{orders_in}
use Rattle.trial.specs.Trials.{FollowsAll}
use Rattle.trial.proofs.runs.Run.each_station.Given as goal

-- the orders of the stations before this one were followed
abbrev pub invariant-loop-station : goal.invariant-loop-station
invariant-loop-station g l = record {
  follows : FollowsAll l.fn.self (flat_map (orders_in l.phase) (range_with_len 1 (l.station - 1))) l.self;
  asked : l.self.asked ≤ l.fn.self.asked + 3 * (l.station - 1);
}
