-- What doors of the system tell of connections: their counts of faults alone.
use Rattle.std.specs.Prelude.{Option, None, List, option_map}
use Rattle.devices.specs.declared.loopback.ClosedEnds.{ClosedEnds}
use Rattle.devices.specs.Doors.{Connections, Ends, told_by}

-- the ends of a real connection, as they are given: they tell no bytes, and have had no fault
abbrev pub untold : Ends
untold = record { left = None; input_faults = 0; written = None; output_faults = 0 }

abbrev pub counts_told : ClosedEnds → Ends
counts_told ends = record { left = None; input_faults = ends.input_faults; written = None; output_faults = ends.output_faults }

abbrev pub told_by_counts : List (Option ClosedEnds) → Connections
told_by_counts places = told_by (λ _. untold) (λ place. option_map counts_told place) places
