use Rattle.std.proofs.Common.{◌-◌, ◌≤◌, length}
use Rattle.day_cells.specs.KeptDays.{NoneUnclaimedBefore}
use Rattle.day_cells.proofs.columns.first_unclaimed.Given as goal

abbrev pub invariant-loop-place : goal.invariant-loop-place
invariant-loop-place l = record { within : l.place ≤ length l.awaits; before : NoneUnclaimedBefore l.awaits l.claims l.place }

abbrev pub decreases-loop-place : goal.decreases-loop-place
decreases-loop-place l = length l.awaits - l.place
