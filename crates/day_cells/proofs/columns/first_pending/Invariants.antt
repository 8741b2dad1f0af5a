use Rattle.std.proofs.Common.{◌-◌, ◌≤◌, length}
use Rattle.day_cells.specs.KeptDays.{NonePendingWithin}
use Rattle.day_cells.proofs.columns.first_pending.Given as goal

abbrev pub invariant-loop-place : goal.invariant-loop-place
invariant-loop-place l = record { low : l.from ≤ l.place; within : l.place ≤ length l.awaits; before : NonePendingWithin l.awaits l.from l.place }

abbrev pub decreases-loop-place : goal.decreases-loop-place
decreases-loop-place l = length l.awaits - l.place
