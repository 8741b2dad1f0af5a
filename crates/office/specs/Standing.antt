-- What ties the journal on the disk to what is kept in memory.
use Rattle.std.specs.Prelude.{◌≡◌, ◌+◌, Option, IsSome, is_some}
use Rattle.devices.specs.declared.disks.Disk.{Ghosts}
use Rattle.history.specs.Accepted.{accepted, journal_size}
use Rattle.history.specs.After.{doubt}
use Rattle.history.specs.Events.{History}
use Rattle.journal.specs.Keeping.{Holds}
use Rattle.journal.specs.declared.keeping.Journal.{Journal}
use Rattle.records.specs.Sheets.{Record}

-- The journal has the history's format. It ends where that of the accepted edits does, and keeps to the history's limit; the record in
-- doubt is the one that the last fault left. Where the disk tells what it has, the journal there holds the accepted edits, and perhaps
-- the one in doubt.
pub record Stands {D : Type 0} {g : Ghosts D} (history : History) (left : Option Record) (journal : Journal D g) : Type 0 where
  pub format : journal.format ≡ history.format
  pub size : journal.gate + 1 ≡ journal_size history.format (accepted history.events)
  pub limit : journal.limit ≡ history.limits.journal_bytes
  pub left_is : left ≡ doubt history
  pub in_doubt_is : journal.in_doubt ≡ is_some (doubt history)
  pub holds : IsSome (g.content journal.disk) → Holds (accepted history.events) (doubt history) journal
