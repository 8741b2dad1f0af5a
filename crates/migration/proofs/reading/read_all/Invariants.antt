-- The records so far were read, nothing was written and no call failed; the gate moves on.
use Rattle.std.specs.Prelude.{◌≡◌, ◌-◌, ◌^◌}
use Rattle.journal.specs.Moments.{OnlyReads}
use Rattle.journal.specs.Reading.{HasRead}
use Rattle.migration.proofs.reading.read_all.Given as goal

abbrev pub invariant-loop-records : goal.invariant-loop-records
invariant-loop-records g l =
    record {
      read : HasRead l.records.items l.opening;
      disk : OnlyReads g.D.Disk l.fn.opening.ahead.disk l.opening.ahead.disk;
      done : g.D.Disk.faults l.opening.ahead.disk ≡ g.D.Disk.faults l.fn.opening.ahead.disk;
    }

abbrev pub decreases-loop-records : goal.decreases-loop-records
decreases-loop-records g l = 2 ^ 64 - l.opening.gate
