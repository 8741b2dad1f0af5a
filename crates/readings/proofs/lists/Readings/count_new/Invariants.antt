use Rattle.std.proofs.Common.{◌≡◌, ◌+◌, ◌≤◌, length, drop, All}
use Rattle.readings.specs.Halves.{joined}
use Rattle.readings.specs.Readings.{IsRising, at_instant, put_all}
use Rattle.readings.proofs.lists.Readings.count_new.Given as goal

abbrev pub invariant-loop-reading : goal.invariant-loop-reading
invariant-loop-reading l = record {
  count : length (put_all (drop l.reading-index l.list) l.self.list) + l.count ≡ length (put_all l.list l.self.list);
  small : l.count ≤ l.reading-index;
  rising : IsRising (joined l.rest);
  rest : All (λ r. at_instant r.at (joined l.rest) ≡ at_instant r.at l.self.list) (drop l.reading-index l.list);
}
