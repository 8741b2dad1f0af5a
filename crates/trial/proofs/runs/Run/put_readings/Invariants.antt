use Rattle.std.proofs.Common.{◌≡◌, ◌+◌, ◌-◌, ◌*◌}
use Rattle.std.specs.List.{flat_map, range_with_len}
use Rattle.trial.specs.Trials.{FollowsAll}
use Rattle.trial_orders.specs.Orders.{putting_readings}
use Rattle.trial_orders.specs.Questions.{draws_before}
use Rattle.trial.proofs.runs.Run.put_readings.Given as goal

-- the readings of the stations before this one were put, and its draws come next
abbrev pub invariant-loop-station : goal.invariant-loop-station
invariant-loop-station g l = record {
  follows : FollowsAll l.fn.self (flat_map (putting_readings l.number) (range_with_len 1 (l.station - 1))) l.self;
  asked : l.self.asked ≡ l.fn.self.asked + 8 * (l.station - 1);
  draws : l.draws ≡ record { number = l.number; made = draws_before l.station 0 };
}
