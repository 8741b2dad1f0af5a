use Rattle.std.specs.Prelude.{◌≡◌, None, slice_get}
use Rattle.std.specs.List.{AllWithin}
use Rattle.day_cells.specs.KeptDays.{waiting_of}
use Rattle.recompute.proofs.stations.first_in.Given as goal

abbrev pub invariant-loop-station : goal.invariant-loop-station
invariant-loop-station l = AllWithin (λ s. slice_get (waiting_of s) 0 ≡ None) l.stations 0 l.station-index
