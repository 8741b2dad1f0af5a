-- The used ones of the readings that were seen are counted.
use Rattle.std.proofs.Common.{◌≡◌, ◌≤◌, length, take}
use Rattle.std.specs.Prelude.{filter}
use Rattle.readings.specs.Readings.{is_used}
use Rattle.readings.proofs.used.count_used.Given as goal

abbrev pub invariant-loop-reading : goal.invariant-loop-reading
invariant-loop-reading l = record {
  counted : l.count ≡ length (filter is_used (take l.reading-index l.list));
  few : l.count ≤ l.reading-index;
}
