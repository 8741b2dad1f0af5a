use Rattle.std.proofs.Common.{◌≡◌, []}
use Rattle.devices.specs.MemoryDoors.{told_in_memory}
use Rattle.run_rows.proofs.objects.doors_of.Given as goal

-- none of those that wait was given
abbrev pub invariant-loop-connection : goal.invariant-loop-connection
invariant-loop-connection l =
    (goal.iterator-loop-connection).can_next l.connection-iterator × (goal.iterator-loop-connection).is_finite l.connection-iterator
    × ((told_in_memory l.doors.places.items).given ≡ [])
