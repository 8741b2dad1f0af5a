use Rattle.std.proofs.Common.{◌≡◌, ℕ, ◌-◌, ◌+◌, arith, ap, subst, ◌∙◌}
use Rattle.trial.proofs.FollowLemmas.{all_stations, station_more}
use Rattle.trial.proofs.runs.Run.put_readings.Goals as goal
use Rattle.trial.specs.Trials.{FollowsAll}
use Rattle.trial_orders.specs.Draws.{Drawn}
use Rattle.trial_orders.specs.Orders.{putting_readings}
use Rattle.trial_orders.specs.Questions.{draws_before}

pub loop-station-preserved : goal.loop-station-preserved
loop-station-preserved g c =
    let number : c.loop-station.draws.number ≡ c.args.number = ap (λ (d : Drawn). d.number) c.loop-station.invariant.draws in
    let made : draws_before c.loop-station.station 8 ≡ draws_before (c.loop-station.station + 1) 0 = omega arith in
    let draws : c.put_parts.new.draws ≡ record { number = c.args.number; made = draws_before c.loop-station.station 8 } =
    c.in_ok-put_parts.ensures.draws ∙ ap (λ (n : ℕ). record { number = n; made = draws_before c.loop-station.station 8 }) number in
    record {
      follows = station_more (putting_readings c.args.number) c.args.self.now c.loop-station.self c.put_parts.new.self c.loop-station.station
          (c.loop-station.station - 1) (c.loop-station.station + 1 - 1) (omega arith) (omega arith) c.loop-station.invariant.follows
          (subst (λ (n : ℕ). FollowsAll c.loop-station.self (putting_readings n c.loop-station.station) c.put_parts.new.self) number
          c.in_ok-put_parts.ensures.follows);
      asked = omega (arith, c.loop-station.invariant.asked, c.in_ok-put_parts.ensures.asked);
      draws = draws ∙ ap (λ (n : ℕ). record { number = c.args.number; made = n }) made;
    }

pub returns-clause-follows : goal.returns-clause-follows
returns-clause-follows g c =
    all_stations (putting_readings c.args.number) c.args.self.now c.loop-station.self (c.loop-station.station - 1) (omega arith)
    c.loop-station.invariant.follows
