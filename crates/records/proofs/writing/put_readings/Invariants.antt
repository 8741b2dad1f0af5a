use Rattle.std.proofs.Common.{◌≡◌, ◌++◌, flat_map, take}
use Rattle.records.specs.Payloads.{reading_bytes}
use Rattle.records.proofs.writing.put_readings.Given as goal

abbrev pub invariant-loop-reading : goal.invariant-loop-reading
invariant-loop-reading l = l.out.items ≡ l.initial.out.items ++ flat_map reading_bytes (take l.reading-index l.readings)
