-- What a run comes to that writes a table of an office: its daily values, or a water year.
use Rattle.std.specs.Prelude.{◌≡◌, ℕ, List, Result, IsErr, IfOk}
use Rattle.command_words.specs.Words.{DailyAsked, WaterAsked}
use Rattle.devices.specs.declared.disks.Disk.{Ghosts}
use Rattle.history.specs.Accepted.{accepted}
use Rattle.history.specs.Events.{History}
use Rattle.journal.specs.declared.opening.OpenFault.{OpenFault}
use Rattle.table_writing.specs.Ends.{IsWrittenBehind, TableCause}
use Rattle.table_writing.specs.Texts.{daily_output, water_output}
use Rattle.table_writing.specs.declared.writing.TableEnd.{TableEnd}
use Rattle.table_writing.specs.declared.writing.TableEnd.TheVariants as tables
use Rattle.commands.specs.Opening.{Carries, RunsOver}
use Rattle.commands.specs.Worlds.{DoorsStay, Stream, Told, World}
use Rattle.commands.specs.declared.endings.Ending.{Ending}
use Rattle.commands.specs.declared.endings.Ending.TheVariants as endings

-- what the end of the writing of a table comes to
abbrev pub table_ending : TableEnd → Ending
table_ending tables.Done = endings.Done
table_ending tables.OutputFault = endings.OutputFault
table_ending tables.NoMemory = endings.NoMemory

-- what `daily` and `water` write of what has happened
abbrev pub daily_written : DailyAsked → History → List ℕ
daily_written asked h = daily_output h.events asked.site asked.first asked.last

abbrev pub water_written : WaterAsked → History → List ℕ
water_written asked h = water_output h.events asked.site asked.year

-- A text of an office was written behind so many turns, from one history to another, and no edit was made.
pub record IsTableWritten (turns : ℕ) (text : History → List ℕ) (output written : Stream) (end : TableEnd) (h last : History) : Type 0 where
  pub text_is : IsWrittenBehind end turns text h last output.bytes written.bytes
  pub records : accepted last.events ≡ accepted h.events

-- A run of such a command, over the journal under a name. No input is read, and where the journal was not opened, or there was no memory,
-- nothing was written.
pub record WritesTable {S K E C L P D : Type 0} (g : Ghosts D) (tell : World S K E C L P → Told D) (name : List ℕ) (turns : ℕ)
    (text : History → List ℕ) (end : Result TableEnd OpenFault) (before after : World S K E C L P) : Type 0 where
  pub over : RunsOver g name (Carries g) (IsTableWritten turns text (tell before).output (tell after).output) end
      (tell before).cabinet (tell after).cabinet
  pub cause : IfOk end (λ end. TableCause end (tell before).output.faults (tell after).output.faults)
  pub unopened : IsErr end → after.output ≡ before.output
  pub unwritten : IfOk end (λ end. end ≡ tables.NoMemory → after.output ≡ before.output)
  pub input : after.input ≡ before.input
  pub doors : DoorsStay before after

module _ {S K E C L P D : Type 0} (g : Ghosts D) (tell : World S K E C L P → Told D) where
  -- a run of `daily`
  abbrev pub WritesDaily : DailyAsked → Result TableEnd OpenFault → World S K E C L P → World S K E C L P → Type 0
  WritesDaily asked end before after = WritesTable g tell asked.journal asked.turns (daily_written asked) end before after

  -- a run of `water`
  abbrev pub WritesWater : WaterAsked → Result TableEnd OpenFault → World S K E C L P → World S K E C L P → Type 0
  WritesWater asked end before after = WritesTable g tell asked.journal asked.turns (water_written asked) end before after
