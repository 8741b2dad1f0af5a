-- The readings that were passed are written.
use Rattle.std.proofs.Common.{◌≡◌, ◌++◌, flat_map, take}
use Rattle.logger_files.specs.Requests.{further_text}
use Rattle.logger_files.proofs.requests.write_others.Given as goal

abbrev pub invariant-loop-reading : goal.invariant-loop-reading
invariant-loop-reading l = l.out ≡ l.fn.out ++ flat_map further_text (take l.reading-index l.readings)
