-- The records so far stand in the journal behind those that it had, written over what stood there, and a stop left none fewer than it had.
use Rattle.std.specs.Prelude.{◌≡◌, ◌+◌, ◌++◌, false, List, None, flat_map, length, take}
use Rattle.devices.specs.Disks.{IsOverwritten}
use Rattle.journal.specs.JournalBytes.{block}
use Rattle.journal.specs.Keeping.{Holds}
use Rattle.journal.specs.Moments.{LeavesOnly}
use Rattle.migration.specs.Copying.{IsBetween, appended}
use Rattle.records.specs.Sheets.{Record}
use Rattle.records.specs.declared.formats.Format.TheVariants.{Second}
use Rattle.migration.proofs.copying.append_all.Given as goal

abbrev pub invariant-loop-piece : goal.invariant-loop-piece
invariant-loop-piece g l =
    record {
      format : l.journal.format ≡ Second;
      settled : l.journal.in_doubt ≡ false;
      limit : l.journal.limit ≡ l.fn.journal.limit;
      gate : l.journal.gate ≡ l.fn.journal.gate + length (flat_map (block Second) (take l.piece-index l.records));
      holds : (done : List Record) → Holds done None l.fn.journal → Holds (done ++ take l.piece-index l.records) None l.journal;
      any_moment : (done : List Record) → Holds done None l.fn.journal
          → LeavesOnly g.D.Disk l.fn.journal.disk l.journal.disk (IsBetween done (done ++ l.records));
      wrote : (done : List Record) → Holds done None l.fn.journal
          → IsOverwritten (g.D.Disk.content l.fn.journal.disk) l.fn.journal.gate (appended (take l.piece-index l.records)) (g.D.Disk.content l.journal.disk);
      well : g.D.Disk.faults l.journal.disk ≡ g.D.Disk.faults l.fn.journal.disk;
    }
