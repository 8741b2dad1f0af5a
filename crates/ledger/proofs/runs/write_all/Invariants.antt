-- The records so far were read, and their text was written; the gate moves on.
use Rattle.std.specs.Prelude.{◌≡◌, ◌≤◌, ◌+◌, ◌-◌, ◌^◌, suc, true, List, length}
use Rattle.journal.specs.Reading.{HasRead}
use Rattle.ledger.specs.Runs.{WritesAll}
use Rattle.records.specs.Sheets.{Record}
use Rattle.ledger.proofs.runs.write_all.Given as goal

abbrev pub invariant-loop-number : goal.invariant-loop-number
invariant-loop-number g l =
    record {
      so_far : (pieces : List Record) × HasRead pieces l.opening × (l.number ≡ suc (length pieces))
          × WritesAll l.form l.choice pieces (g.K.Sink.written l.fn.sink) (g.K.Sink.written l.sink) true;
      place : l.number + 15 ≤ l.opening.gate;
      same : l.opening.ahead.disk.bytes ≡ l.fn.opening.ahead.disk.bytes;
      counted : g.K.Sink.faults l.fn.sink ≤ g.K.Sink.faults l.sink;
    }

abbrev pub decreases-loop-number : goal.decreases-loop-number
decreases-loop-number g l = 2 ^ 64 - l.opening.gate
