-- Requests that are all answered, and edits that are all told, none of them by a journal that failed.
use Rattle.std.specs.Prelude.{◌≡◌, ℕ, zero, suc, false, List, count_by}
use Rattle.desk.specs.Replies.{tells_fault}
use Rattle.desk.specs.Sessions.{IsServed}
use Rattle.desk.specs.declared.sessions.SessionEnd.TheVariants as sessions
use Rattle.devices.specs.Doors.{Connections, Ends}
use Rattle.devices.specs.declared.disks.Disk.{Ghosts}
use Rattle.edits.specs.declared.content.Edit.{Edit}
use Rattle.history.specs.After.{reopen}
use Rattle.history.specs.Events.{History}
use Rattle.office_inputs.specs.Usual.{usual}
use Rattle.records.specs.Sheets.{Record}
use Rattle.serving.specs.Failing.{failed_in}
use Rattle.told_edits.specs.Lines.{AreSent, IsSent, tells_fault_line}
use Rattle.commands.specs.Beside.{WorksBeside}
use Rattle.commands.specs.Loading.{Loaded}
use Rattle.commands.specs.Serving.{AreServedBeside, failed_beside}
use Rattle.commands.specs.Statuses.{status_of}
use Rattle.commands.specs.Worlds.{Told}
use Rattle.commands.specs.declared.endings.Ending.{Ending}

-- An input was read to its end, each of its messages has its reply in its place, and none tells that the journal failed: the replies are those of
-- the office, and beside workers those that the holdings of the session tell.
abbrev pub AreAnswered : {D : Type 0} → Ghosts D → ℕ → Ends → Ends → History → History → Type 0
AreAnswered g zero came went h last =
    (served : IsServed h last sessions.End came.left went.left came.written went.written) × (count_by tells_fault served.replies ≡ 0)
AreAnswered g (suc workers) came went h last =
    (worked : WorksBeside g (suc workers) came went sessions.End h last) × (failed_in worked.beside.ends_in ≡ 0)

-- connections were served beside so many workers, and no reply on any of them tells that the journal failed
abbrev pub AreServedWell : {D : Type 0} → Ghosts D → ℕ → Connections → History → History → Type 0
AreServedWell g workers told h last = (served : AreServedBeside g workers told h last) × (failed_beside served ≡ 0)

-- Whatever edits were asked on the way from one history to another, be it many or one, and with whatever ends they are told in lines: no line tells
-- that the journal failed.
pub record TellsNoFault (h last : History) : Type 0 where
  pub many : (end : Edit → List ℕ) (edits : List Edit) (lines : List (List ℕ)) → AreSent end h edits lines last
      → count_by tells_fault_line lines ≡ 0
  pub one : (end : List ℕ) (edit : Edit) (line : List ℕ) → IsSent end h edit line last → tells_fault_line line ≡ false

-- An input was loaded, and its run ended with this status: from the records of the journal that was found to a history, and no line tells that the
-- journal failed.
abbrev pub IsLoadedWell : {D End : Type 0} → (End → Ending) → Loaded End → ℕ → Told D → Told D → Type 0
IsLoadedWell {D} {End} ending_of Loads status before after =
    (end : End) × (status ≡ status_of (ending_of end)) × (pieces : List Record) × (last : History)
    × Loads before.input after.input before.output after.output end (reopen usual last.format pieces) last
    × TellsNoFault (reopen usual last.format pieces) last
