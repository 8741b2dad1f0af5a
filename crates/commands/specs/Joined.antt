-- Runs of `batch` over one journal, one behind another: what is left of one is what the next one finds.
use Rattle.std.specs.Prelude.{◌≡◌, ◌⊎◌, ℕ, ◌≤◌, List, [], ◌∷◌, ◌++◌, length, Option, Some, IsSome, IsSomeAnd, ⊤}
use mathlib.Core.List.{IsPrefix}
use Rattle.desk.specs.Courses.{IsCourse, cut_before}
use Rattle.desk.specs.Replies.{AreReplies}
use Rattle.desk.specs.Sessions.{IsHeardBetween}
use Rattle.desk.specs.declared.sessions.SessionEnd.{SessionEnd}
use Rattle.devices.specs.declared.disks.Disk.{Ghosts}
use Rattle.history.specs.Accepted.{accepted}
use Rattle.history.specs.After.{reopen}
use Rattle.history.specs.Events.{History}
use Rattle.history.specs.Legal.{IsLegal}
use Rattle.journal.specs.JournalBytes.{IsJournalOf}
use Rattle.journal.specs.Moments.{SyncsFirst}
use Rattle.office.specs.Steps.{AStop, GoesOver, Step}
use Rattle.office.specs.Stops.{IsLeft, IsLeftBetween}
use Rattle.office_inputs.specs.Usual.{usual}
use Rattle.records.specs.Sheets.{Record}
use Rattle.records.specs.declared.formats.Format.{Format}
use Rattle.register.specs.Registered.{NoneOut, Registered}
use Rattle.wire.specs.declared.messages.Message.{Message}
use Rattle.commands.specs.Opening.{Carries, GoesOnUnder}
use Rattle.commands.specs.Places.{HasKept, StaysWith}
use Rattle.commands.specs.Worlds.{Shelf, StreamsStay, Told, World}

-- A run without workers: the records that were found, the messages that were read, the replies to them, and the history behind them, over a
-- journal of one format.
pub record Run : Type 0 where
  pub found : List Record
  pub messages : List Message
  pub replies : List (List ℕ)
  pub last : History
  pub answers : AreReplies (reopen usual last.format found) messages replies last

-- where a run is stopped: behind its end, or at any moment since the sync that began its opening
pub data Stop : Type 0 where
  BehindTheEnd : Stop
  Within : Stop

-- a run, and its stop
pub record Stretch : Type 0 where
  pub run : Run
  pub stop : Stop

-- what the stop leaves of the run
abbrev pub MayLeave : Stop → Run → List ℕ → Type 0
MayLeave BehindTheEnd run image = IsLeft run.last image
MayLeave Within run image = IsLeftBetween (reopen usual run.last.format run.found) run.last image

-- and the records that are found on it, in the format of the run
abbrev pub LeavesFor : Stop → Run → List Record → Type 0
LeavesFor stop run next = (image : List ℕ) × MayLeave stop run image × IsJournalOf run.last.format next image

-- what the stop leaves of one run is what another one finds, in the same format
abbrev pub IsFoundBy : Stop → Run → Run → Type 0
IsFoundBy stop first second = LeavesFor stop first second.found × (second.last.format ≡ first.last.format)

-- Runs one behind another, each of which finds what was left of the one before, in the format of that journal, from the records that the first
-- one finds to those that are found behind the last one.
abbrev pub AreOneBehindAnother : Format → List Record → List Stretch → List Record → Type 0
AreOneBehindAnother format found [] next = next ≡ found
AreOneBehindAnother format found (one ∷ others) next =
    (one.run.found ≡ found) × (one.run.last.format ≡ format) × (mid : List Record) × LeavesFor one.stop one.run mid
    × AreOneBehindAnother format mid others next

-- the calls that were not done before the stop: none where it came behind the end
abbrev pub IsCutBy : Stop → List Step → Type 0
IsCutBy BehindTheEnd behind = behind ≡ []
IsCutBy Within behind = ⊤

-- A run is of an office's calls, in each of which its message was replied to. The first of them were done before the stop, which cuts off the
-- call of an edit where the next of them is one, and behind it an office is opened on the records that are found.
pub record IsStretchOf (old : Registered) (stop : Stop) (run : Run) (next : List Record) (opened : Registered) : Type 0 where
  pub new : Registered
  pub steps : List Step
  pub before : List Step
  pub behind : List Step
  pub found : Option Record
  pub begins : old.history ≡ reopen usual run.last.format run.found
  pub course : IsCourse old steps run.messages run.replies new
  pub last : new.history ≡ run.last
  pub parts : steps ≡ before ++ behind
  pub cut : IsCutBy stop behind
  pub over : GoesOver old (before ++ AStop (cut_before behind) found ∷ []) opened
  pub history : opened.history ≡ reopen usual run.last.format next
  pub claims : NoneOut opened
  pub legal : IsLegal opened.history

-- runs one behind another, each over the office that was opened behind the stop of the one before
abbrev pub AreOneCourse : Registered → List Stretch → List Record → Type 0
AreOneCourse old [] next = old.history ≡ reopen usual old.history.format next
AreOneCourse old (one ∷ others) next =
    (opened : Registered) × (mid : List Record) × IsStretchOf old one.stop one.run mid opened × AreOneCourse opened others next

-- the calls that were done in them, the stops and the openings, one behind another
abbrev pub steps_of : (old : Registered) (runs : List Stretch) (next : List Record) → AreOneCourse old runs next → List Step
steps_of old [] next is = []
steps_of old (one ∷ others) next is = (is.2.before ++ AStop (cut_before is.2.behind) is.2.found ∷ []) ++ steps_of is.0 others next is.3

-- These records are those that the run found, with those of a front of the edits that it accepted behind them, and at most one more.
pub record IsFrontOf (run : Run) (next : List Record) : Type 0 where
  pub front : List Record
  pub more : List Record
  pub begins : IsPrefix run.found front
  pub within : IsPrefix front (accepted run.last.events)
  pub few : length more ≤ 1
  pub next_is : next ≡ front ++ more

module _ {D : Type 0} (g : Ghosts D) (name : List ℕ) where
  -- the cabinet tells of a disk under the name that has P
  abbrev pub HasUnder : (D → Type 0) → Shelf D → Type 0
  HasUnder P shelf = IsSomeAnd shelf.places (λ places. HasKept P (places name))

  -- one that tells its bytes
  abbrev pub IsTold : Shelf D → Type 0
  IsTold shelf = HasUnder (λ disk. IsSome (g.content disk)) shelf

  -- one that has these bytes
  abbrev pub Has : List ℕ → Shelf D → Type 0
  Has bytes shelf = HasUnder (λ disk. g.content disk ≡ Some bytes) shelf

  -- one that has these bytes, or of which a stop may leave them
  abbrev pub HasOrLeaves : List ℕ → Shelf D → Type 0
  HasOrLeaves bytes shelf = HasUnder (λ disk. (g.content disk ≡ Some bytes) ⊎ g.may_leave disk bytes) shelf

  -- this very one
  abbrev pub Keeps : D → Shelf D → Type 0
  Keeps disk shelf = HasUnder (λ kept. kept ≡ disk) shelf

  -- The objects were run so: what was replied is what the streams tell, where they tell their bytes, and where the cabinet tells what it has,
  -- the journal was that of the records that were found, and is left with that of the edits that were accepted.
  pub record Plays {S K E C L P : Type 0} (tell : World S K E C L P → Told D) (run : Run) (before after : World S K E C L P) : Type 0 where
    pub end : SessionEnd
    pub heard : IsHeardBetween run.messages run.replies end (tell before).input.bytes (tell after).input.bytes
        (tell before).output.bytes (tell after).output.bytes
    pub goes_on : GoesOnUnder g name (Carries g run.found run.last) (tell before).cabinet.places (tell after).cabinet.places

  -- Nothing was read and nothing written. The cabinet was not touched, or the journal was not opened, and what was under the name is left
  -- alone.
  pub record IsUnplayed {S K E C L P : Type 0} (tell : World S K E C L P → Told D) (before after : World S K E C L P) : Type 0 where
    pub streams : StreamsStay before after
    pub journal : (after.cabinet ≡ before.cabinet) ⊎ StaysWith g name (λ place. ⊤) (tell before).cabinet.places (tell after).cabinet.places

  -- A stop at any moment of a run, of the disk that was found before it, which tells its bytes, and left behind it: until the sync that began
  -- the opening was done it left what it might have left before; from then on it left bytes whose records, where the cabinet of a next run has
  -- them, are those of a run that is stopped within.
  abbrev pub StopsWithin : Run → Run → Shelf D → Shelf D → Shelf D → Type 0
  StopsWithin run next before after again =
      (found left : D) → Keeps found before → IsSome (g.content found) → Keeps left after
      → SyncsFirst g found left (λ image. Has image again → IsFoundBy Within run next × IsFrontOf run next.found)
