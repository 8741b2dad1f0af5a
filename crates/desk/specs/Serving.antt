-- Sessions of a shared office, over the list of its lock.
use Rattle.std.specs.Prelude.{◌≡◌, ℕ, ◌+◌, ◌-◌, ◌≤◌, List, [], length, take, Some, None, Result, Ok, Err}
use mathlib.Core.List.{IsPrefix}
use Rattle.desk.specs.Behind.{AreTurns, AreTurnsPartly, IsAnswered, IsPublication, IsSettlement, IsSettlementPartly, Uses, grown}
use Rattle.desk.specs.Replying.{AreReplies}
use Rattle.desk.specs.Sessions.{HasCause, IsHeardBetween}
use Rattle.desk.specs.declared.behind.Turned.{Turned}
use Rattle.desk.specs.declared.sessions.SessionEnd.{SessionEnd}
use Rattle.devices.specs.Doors.{Ends}
use Rattle.devices.specs.declared.disks.Disk.{Ghosts}
use Rattle.fixed_units.specs.declared.texts.NoMemory.{NoMemory}
use Rattle.history.specs.Awaited.{pending_days}
use Rattle.http_api.specs.declared.asks.Ask.{Ask}
use Rattle.recompute.specs.Jobs.{DayJob}
use Rattle.shared_office.specs.Entries.{history_of}
use Rattle.shared_office.specs.Holdings.{Holding, Follow, last_of, places_of}
use Rattle.shared_office.specs.Passing.{Goes, GoesOnce, PassTo}
use Rattle.shared_office.specs.declared.entries.Entry.{Entry}
use Rattle.shared_office.specs.declared.entries.Fixed.{Fixed}
use Rattle.wire.specs.declared.messages.Message.{Message}

-- A session ended so between what its two ends told before and after: messages were replied to, one behind another, in these holdings and in
-- no others. Where the ends tell their bytes, the messages are those that were read, and the replies were written. A fault has its cause at
-- its own end.
pub record EndsIn (fixed : Fixed) (before after : Ends) (end : SessionEnd) (holdings : List (Holding (List Entry))) : Type 0 where
  pub messages : List Message
  pub replies : List (List ℕ)
  pub answers : AreReplies (Uses fixed) holdings messages replies []
  pub heard : IsHeardBetween messages replies end before.left after.left before.written after.written
  pub input_counted : before.input_faults ≤ after.input_faults
  pub output_counted : before.output_faults ≤ after.output_faults
  pub cause : HasCause end before.input_faults after.input_faults before.output_faults after.output_faults

-- A connection is served: between its ends as they were given and as they came back, from the length that was seen at the start, in a
-- list, with the places of what was added for it.
pub record Served (fixed : Fixed) (before after : Ends) (start : ℕ) (list : List Entry) (added : List ℕ) : Type 0 where
  pub end : SessionEnd
  pub holdings : List (Holding (List Entry))
  pub seen : start ≤ length list
  pub follow : Follow IsPrefix (take start list) holdings list
  pub added_is : added ≡ places_of length holdings
  pub ends_in : EndsIn fixed before after end holdings

-- what is told of turns or of a settlement in these holdings
pub record IsCounted (fixed : Fixed) (turned : Turned) (holdings : List (Holding (List Entry))) : Type 0 where
  pub last : Holding (List Entry)
  pub last_is : last_of holdings ≡ Some last
  pub pending : turned.pending ≡ length (pending_days (history_of fixed last.to).events)
  pub published : turned.published ≡ grown holdings

module _ {D : Type 0} {g : Ghosts D} where
  -- an ask is answered behind a lock, while a pass goes through the holdings that it takes
  abbrev pub AnswersBehind : Fixed → PassTo D g → Ask → List ℕ → PassTo D g → Type 0
  AnswersBehind fixed given ask reply back = (holdings : List (Holding (List Entry))) × Goes given back holdings × IsAnswered fixed ask reply holdings

  -- a session of a pass: the holdings that it went through, and how it ended
  pub record IsSession (fixed : Fixed) (given back : PassTo D g) (end : SessionEnd) (before after : Ends) : Type 0 where
    pub holdings : List (Holding (List Entry))
    pub goes : Goes given back holdings
    pub ends_in : EndsIn fixed before after end holdings

  -- A job was published in one holding, and so many publications are counted with it and those before. So many days are pending behind it.
  pub record IsPublished (fixed : Fixed) (given : PassTo D g) (job : DayJob) (before : ℕ) (back : PassTo D g) (turned : Turned) : Type 0 where
    pub holding : Holding (List Entry)
    pub goes : GoesOnce given back holding
    pub publication : IsPublication fixed job holding
    pub pending : turned.pending ≡ length (pending_days (history_of fixed holding.to).events)
    pub published : turned.published ≡ before + (length holding.to - length holding.from)

  -- so many turns were made, or want of memory cut them off
  abbrev pub AreTurned : Fixed → ℕ → PassTo D g → PassTo D g → Result Turned NoMemory → Type 0
  AreTurned fixed count given back (Ok turned) =
      (holdings : List (Holding (List Entry))) × Goes given back holdings × AreTurns fixed count holdings × IsCounted fixed turned holdings
  AreTurned fixed count given back (Err failed) =
      (holdings : List (Holding (List Entry))) × Goes given back holdings × AreTurnsPartly fixed count holdings

  -- a settlement was made, or want of memory cut it off
  abbrev pub IsSettled : Fixed → PassTo D g → PassTo D g → Result Turned NoMemory → Type 0
  IsSettled fixed given back (Ok turned) =
      (holdings : List (Holding (List Entry))) × Goes given back holdings × IsSettlement fixed None holdings × IsCounted fixed turned holdings
  IsSettled fixed given back (Err failed) =
      (holdings : List (Holding (List Entry))) × Goes given back holdings × IsSettlementPartly fixed None holdings
