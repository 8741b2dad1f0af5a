-- What doors in memory tell.
use Rattle.std.specs.Prelude.{◌≡◌, ◌∷◌, List, Option, Some, option_map, Result, Ok, Err}
use Rattle.devices.specs.declared.doors.DoorFailed.{DoorFailed}
use Rattle.devices.specs.declared.doors.Next.{Next}
use Rattle.devices.specs.declared.doors.Next.TheVariants.{Open, Failed}
use Rattle.devices.specs.declared.memory_doors.MemoryEnds.{MemoryEnds}
use Rattle.devices.specs.declared.memory_doors.MemoryPlace.{MemoryPlace}
use Rattle.devices.specs.Doors.{Connections, Ends, told_by}
use Rattle.devices.specs.Failures.{Counts, Fails, with_call, with_fault}
use Rattle.devices.specs.Memory.{Store, Supply}

-- two ends in memory tell all
abbrev pub all_told : MemoryEnds → Ends
all_told ends =
    record { left = Some ends.input.left; input_faults = ends.input.counts.faults; written = Some ends.output.written; output_faults = ends.output.counts.faults }

abbrev pub given_at : MemoryPlace → Ends
given_at place = all_told place.given.value

abbrev pub taken_back_at : MemoryPlace → Option Ends
taken_back_at place = option_map all_told place.back

abbrev pub told_in_memory : List MemoryPlace → Connections
told_in_memory places = told_by given_at taken_back_at places

-- doors in memory fail to listen exactly where they were told to
abbrev pub ListensOnCommand : Counts → Result Unit DoorFailed → Counts → Type 0
ListensOnCommand before (Ok listening) after = (¬ Fails before) × (after ≡ with_call before)
ListensOnCommand before (Err failed) after = Fails before × (after ≡ with_fault (with_call before))

-- doors in memory fail where they were told to, and where no connection waits; want of memory may fail them too
abbrev pub OpensOnCommand : Counts → Next Supply Store → Counts → Type 0
OpensOnCommand before (Open input output) after = (¬ Fails before) × (after ≡ with_call before)
OpensOnCommand before Failed after = after ≡ with_fault (with_call before)

-- the first of those that wait is given, and the others go on waiting
abbrev pub IsFirst : List MemoryEnds → Next Supply Store → List MemoryEnds → Type 0
IsFirst before (Open input output) after = before ≡ record { input = input; output = output } ∷ after
IsFirst before Failed after = after ≡ before
