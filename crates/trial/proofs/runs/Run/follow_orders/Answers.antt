use Rattle.trial.proofs.FollowLemmas.{in_phases, on_ok}
use Rattle.trial.proofs.runs.Run.follow_orders.Goals as goal
use Rattle.trial.specs.Trials.{Follows, FollowsAll}
use Rattle.trial_orders.specs.Orders.{Settle, orders}

pub returns-clause-follows : goal.returns-clause-follows
returns-clause-follows g c =
    on_ok c.settle-2.result (Follows c.each_station-4.new.self Settle c.settle-2.new.self) (FollowsAll c.args.self.now (orders c.args.number) c.settle-2.new.self)
    (λ (last : Follows c.each_station-4.new.self Settle c.settle-2.new.self).
    in_phases c.args.number c.args.self.now c.each_station.new.self c.put_readings.new.self c.each_station-2.new.self c.settle.new.self
    c.each_station-3.new.self c.each_station-4.new.self c.settle-2.new.self
    c.in_ok-each_station.ensures.follows c.in_ok-put_readings.ensures.follows c.in_ok-each_station-2.ensures.follows c.in_ok-settle.ensures.follows
    c.in_ok-each_station-3.ensures.follows c.in_ok-each_station-4.ensures.follows last)
    c.settle-2.ensures.follows
