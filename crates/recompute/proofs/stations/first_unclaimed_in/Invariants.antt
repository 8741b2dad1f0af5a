use Rattle.recompute.specs.Cells.{NoneUnclaimedWithin}
use Rattle.recompute.proofs.stations.first_unclaimed_in.Given as goal

abbrev pub invariant-loop-station : goal.invariant-loop-station
invariant-loop-station l = NoneUnclaimedWithin l.stations 0 l.station-index
