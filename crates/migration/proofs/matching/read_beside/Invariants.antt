-- The records so far were read beside the others, nothing was written and no call failed; the gate moves on.
use Rattle.std.specs.Prelude.{◌≡◌, ◌≤◌, ◌-◌, ◌^◌, List, length}
use Rattle.journal.specs.Moments.{OnlyReads}
use Rattle.journal.specs.Reading.{HasRead}
use Rattle.migration.specs.Matching.{IsMatched}
use Rattle.records.specs.Sheets.{Record}
use Rattle.migration.proofs.matching.read_beside.Given as goal

abbrev pub invariant-loop : goal.invariant-loop
invariant-loop g l =
    record {
      read : (copied : List Record) × HasRead copied l.opening × IsMatched l.found.differs l.found.same l.records copied;
      within : l.found.same ≤ length l.records;
      format : l.opening.format ≡ l.fn.opening.format;
      disk : OnlyReads g.D.Disk l.fn.opening.ahead.disk l.opening.ahead.disk;
      done : g.D.Disk.faults l.opening.ahead.disk ≡ g.D.Disk.faults l.fn.opening.ahead.disk;
    }

abbrev pub decreases-loop : goal.decreases-loop
decreases-loop g l = 2 ^ 64 - l.opening.gate
