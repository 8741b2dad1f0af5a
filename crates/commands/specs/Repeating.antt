-- A text of readings that is imported by one run and again by another.
use Rattle.std.specs.Prelude.{◌≡◌, ℕ, true, List}
use Rattle.command_words.specs.Words.{ImportAsked}
use Rattle.devices.specs.Sinks.{AreWritten}
use Rattle.devices.specs.declared.disks.Disk.{Ghosts}
use Rattle.edits.specs.declared.content.Edit.{Edit}
use Rattle.history.specs.After.{reopen}
use Rattle.history.specs.Events.{History}
use Rattle.journal.specs.JournalBytes.{IsJournalOf}
use Rattle.office_inputs.specs.Usual.{usual}
use Rattle.rdb_records.specs.Units.{IsStated}
use Rattle.rdb_records.specs.declared.units.UnitList.{UnitList}
use Rattle.reading_loading.specs.Loading.{IsLoadedAgain}
use Rattle.reading_loading.specs.Puts.{ArePuts}
use Rattle.records.specs.Sheets.{Record}
use Rattle.commands.specs.Joined.{HasUnder}
use Rattle.commands.specs.Loading.{order_of}
use Rattle.commands.specs.Opening.{IsLeftOn}
use Rattle.commands.specs.Worlds.{Shelf, Stream}

-- What two runs have written of a text, and what the second one, which found the journal of these bytes, has left: where a line told a number at
-- first it tells it again, or that there was no memory to look; and where all of them told one, nothing happened in the second run: its history
-- is that of the records that it found, and so is the journal that is left. The first run went from the one history to the other.
pub record ImportsAgain {D : Type 0} (g : Ghosts D) (asked : ImportAsked) (input image : List ℕ) (output written output_again written_again : Stream)
    (left : Shelf D) : Type 0 where
  pub found : List Record
  pub last : History
  pub journal : IsJournalOf last.format found image
  pub on : HasUnder g asked.journal (IsLeftOn g last) left
  pub units : UnitList
  pub stated : IsStated asked.site asked.column input units
  pub edits : List Edit
  pub puts : ArePuts (order_of asked) units.readings edits
  pub begun : History
  pub left_first : History
  pub told : List ℕ
  pub told_again : List ℕ
  pub first : AreWritten output.bytes told written.bytes true
  pub second : AreWritten output_again.bytes told_again written_again.bytes true
  pub again : IsLoadedAgain units edits begun left_first (reopen usual last.format found) last told told_again
