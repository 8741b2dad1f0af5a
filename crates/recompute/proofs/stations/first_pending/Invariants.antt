use Rattle.std.specs.Prelude.{◌≤◌, ◌-◌, length}
use Rattle.recompute.specs.Cells.{NonePendingWithin}
use Rattle.recompute.proofs.stations.first_pending.Given as goal

abbrev pub invariant-loop-place : goal.invariant-loop-place
invariant-loop-place l = record { low : l.from ≤ l.place; within : l.place ≤ length l.stations; between : NonePendingWithin l.stations l.from l.place }

abbrev pub decreases-loop-place : goal.decreases-loop-place
decreases-loop-place l = length l.stations - l.place
