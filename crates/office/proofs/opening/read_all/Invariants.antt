-- The records so far are accepted, the limits stay, nothing was written and no call failed; the gate moves on.
use Rattle.std.specs.Prelude.{◌≡◌, List, ◌-◌, ◌^◌}
use Rattle.journal.specs.Moments.{OnlyReads}
use Rattle.office.specs.Replaying.{HasReadmitted}
use Rattle.records.specs.Sheets.{Record}
use Rattle.office.proofs.opening.read_all.Given as goal

abbrev pub invariant-loop : goal.invariant-loop
invariant-loop g l =
    record {
      read : (pieces : List Record) × HasReadmitted l.register.history.limits pieces l.register l.opening;
      limits : l.register.history.limits ≡ l.fn.register.history.limits;
      disk : OnlyReads g.D.Disk l.fn.opening.ahead.disk l.opening.ahead.disk;
      done : g.D.Disk.faults l.opening.ahead.disk ≡ g.D.Disk.faults l.fn.opening.ahead.disk;
    }

abbrev pub decreases-loop : goal.decreases-loop
decreases-loop g l = 2 ^ 64 - l.opening.gate
