use Rattle.std.proofs.Common.{◌≡◌, ◌+◌, ◌<◌, ◌≤◌, length, drop, get_or}
use Rattle.fixed_units.specs.declared.readings.Reading.{Reading}
use Rattle.readings.specs.Readings.{before_instant, put_all}
use Rattle.readings.proofs.lists.Readings.put_all.Given as goal

abbrev pub invariant-loop-reading : goal.invariant-loop-reading
invariant-loop-reading l = record {
  list : put_all (drop l.reading-index l.list) l.self.list ≡ put_all l.list l.fn.self.list;
  room : length l.self.list + l.self.spare ≡ length l.fn.self.list + l.fn.self.spare;
  spare : length l.list ≤ l.self.spare + l.reading-index;
  passed : (d : Reading) → l.reading-index < length l.list → l.from ≤ length (before_instant (get_or l.list l.reading-index d).at l.self.list);
}
