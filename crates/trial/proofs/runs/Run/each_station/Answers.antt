use Rattle.std.proofs.Common.{◌-◌, ◌+◌, arith}
use Rattle.trial.proofs.FollowLemmas.{all_stations, station_more}
use Rattle.trial.proofs.runs.Run.each_station.Goals as goal
use Rattle.trial.specs.Phases.{orders_in}

pub loop-station-preserved : goal.loop-station-preserved
loop-station-preserved g c = record {
  follows = station_more (orders_in c.args.phase) c.args.self.now c.loop-station.self c.one_station.new.self c.loop-station.station
      (c.loop-station.station - 1) (c.loop-station.station + 1 - 1) (omega arith) (omega arith) c.loop-station.invariant.follows
      c.in_ok-one_station.ensures.follows;
  asked = omega (arith, c.loop-station.invariant.asked, c.in_ok-one_station.ensures.asked);
}

pub returns-clause-follows : goal.returns-clause-follows
returns-clause-follows g c =
    all_stations (orders_in c.args.phase) c.args.self.now c.loop-station.self (c.loop-station.station - 1) (omega arith) c.loop-station.invariant.follows
