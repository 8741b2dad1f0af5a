use Rattle.std.proofs.Common.{◌≡◌, ◌+◌, map}
use Rattle.std.specs.List.{range_with_len}
use Rattle.trial.specs.Trials.{FollowsAll}
use Rattle.trial_orders.specs.Orders.{putting_part}
use Rattle.trial_orders.specs.Questions.{draws_before}
use Rattle.trial.proofs.runs.Run.put_parts.Given as goal

-- the parts before this one were put, and its draws come next
abbrev pub invariant-loop-part : goal.invariant-loop-part
invariant-loop-part g l = record {
  follows : FollowsAll l.fn.self (map (putting_part l.fn.draws.number l.station) (range_with_len 0 l.part)) l.self;
  asked : l.self.asked ≡ l.fn.self.asked + l.part;
  draws : l.draws ≡ record { number = l.fn.draws.number; made = draws_before l.station l.part };
}
