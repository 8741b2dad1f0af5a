-- The days of the readings that were walked over are told, and fewer readings are left with each.
use Rattle.std.proofs.Common.{length}
use Rattle.station_inputs.proofs.DayWalk.{AreTold}
use Rattle.station_inputs.proofs.stations.Station.passes_a_day.Given as goal

abbrev pub invariant-loop-first : goal.invariant-loop-first
invariant-loop-first l = AreTold l.self.station l.limit l.readings l.rest

abbrev pub decreases-loop-first : goal.decreases-loop-first
decreases-loop-first l = length l.rest
