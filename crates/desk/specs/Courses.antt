-- The steps of an office in which messages are replied to.
use Rattle.std.specs.Prelude.{◌≡◌, ◌⊎◌, ℕ, ◌+◌, true, false, Bool, List, [], ◌∷◌, ◌++◌, length, map, All, Option, None, Result, Ok, Err, is_some, ℤ, ⊤}
use Rattle.std.specs.List.{AllByRecursion, flat_map}
use Rattle.approval.specs.declared.status.Status.{Status}
use Rattle.daily_values.specs.DayValue.{day_value}
use Rattle.depend.specs.Compared.{days_within}
use Rattle.desk.specs.Replies.{IsAnswered, day_reply, day_row, table_reply}
use Rattle.desk.specs.Replying.{AreReplies, memory_reply}
use Rattle.edits.specs.declared.content.Edit.{Edit}
use Rattle.fixed_units.specs.Quantities.{SiteNumber}
use Rattle.fixed_units.specs.declared.texts.NoMemory.{NoMemory}
use Rattle.history.specs.Awaited.{Computed, DayAnswer, NoStation, Pending}
use Rattle.history.specs.Events.{History}
use Rattle.history.specs.LastChanges.{ChangedLast}
use Rattle.history.specs.Statuses.{standing_of}
use Rattle.history.specs.Verdicts.{Repeats, verdict}
use Rattle.http_api.specs.Asks.{ask_of, question}
use Rattle.http_api.specs.Replies.{bytes_of}
use Rattle.http_api.specs.declared.asks.Ask.{Ask}
use Rattle.http_api.specs.declared.asks.Ask.TheVariants as asks
use Rattle.http_api.specs.declared.replies.Reply.TheVariants as replies
use Rattle.office.specs.Steps.{Step, AnEdit, ATurn, ASettlement, AnAnswer, GoesOver, IsCall, cut_off}
use Rattle.office.specs.declared.offices.Accepted.{Accepted}
use Rattle.office_inputs.specs.Stations.{inputs_of_day, station_of, stations_of}
use Rattle.office_inputs.specs.declared.refusals.Refusal.{Refusal}
use Rattle.register.specs.Registered.{NoneOut, Registered}
use Rattle.shared_office.specs.Entries.{history_of}
use Rattle.shared_office.specs.Holdings.{Holding}
use Rattle.shared_office.specs.declared.entries.Entry.{Entry}
use Rattle.shared_office.specs.declared.entries.Fixed.{Fixed}
use Rattle.wire.specs.declared.messages.Message.{Message}
use Rattle.wire.specs.declared.messages.Message.TheVariants as messages

-- the reply that tells what was answered to an edit
abbrev pub edit_told : Result Accepted Refusal → List ℕ
edit_told (Ok told) = bytes_of (replies.Edit told.number told.repeated)
edit_told (Err refusal) = bytes_of (replies.Refused refusal)

-- the answers for the days from one to another, both included
abbrev pub answers_within : SiteNumber → ℤ → ℤ → (ℤ → DayAnswer) → List Step
answers_within site from to answers = map (λ day. AnAnswer site day (answers day)) (days_within from to)

abbrev pub IsATurn : Step → Type 0
IsATurn (ATurn told) = ⊤
IsATurn step = ⊥

-- there was no memory for what was read, and no step was made
abbrev pub IsForgone : List ℕ → List Step → Type 0
IsForgone reply steps = (steps ≡ []) × (reply ≡ memory_reply)

-- The steps in which an ask is answered, and what the reply tells of them: that to an edit what was answered to it, that for a day what was
-- answered for it, and a daily table what was for each of its days. Turns are turns and a settlement is one, of which nothing more is told
-- here: neither how many turns there are nor what was answered to them is tied to the reply, which `IsAnswered` ties to the histories. What
-- else is asked for, a sheet too, is read without a step. Here the status and whether the station is kept are any: what they are is told by
-- `IsAnswered`.
abbrev pub AreStepsOf : Ask → List ℕ → List Step → Type 0
AreStepsOf (asks.Edit edit) reply steps =
    (told : Result Accepted Refusal) × (steps ≡ AnEdit edit told ∷ []) × (reply ≡ edit_told told)
AreStepsOf (asks.Station site) reply steps = steps ≡ []
AreStepsOf (asks.DayOf site day) reply steps =
    ((status : Status) × (told : DayAnswer) × (steps ≡ AnAnswer site day told ∷ []) × (reply ≡ day_reply status told)) ⊎ IsForgone reply steps
AreStepsOf (asks.SheetOf site day) reply steps = steps ≡ []
AreStepsOf (asks.Daily site from to) reply steps =
    ((kept : Bool) × (status : ℤ → Status) × (told : ℤ → DayAnswer) × (steps ≡ answers_within site from to told)
    × (reply ≡ table_reply kept (flat_map (λ day. day_row day (status day) (told day)) (days_within from to))))
    ⊎ IsForgone reply steps
AreStepsOf (asks.Measurement site number) reply steps = steps ≡ []
AreStepsOf (asks.EditOf number) reply steps = steps ≡ []
AreStepsOf (asks.Turns count) reply steps = All IsATurn steps
AreStepsOf asks.Settle reply steps = (told : Result ℕ NoMemory) × (steps ≡ ASettlement told ∷ [])
AreStepsOf asks.Counts reply steps = steps ≡ []

-- an office at some point of its steps, with those that are still to come
pub record Coming : Type 0 where
  pub office : Registered
  pub steps : List Step

-- an ask is answered in the first of the steps that are still to come, each of which is a call
pub record AnswersInSteps (x : Coming) (ask : Ask) (reply : List ℕ) (y : Coming) : Type 0 where
  pub mine : List Step
  pub splits : x.steps ≡ mine ++ y.steps
  pub over : GoesOver x.office mine y.office
  pub calls : All IsCall mine
  pub answered : IsAnswered x.office.history ask reply y.office.history
  pub told : AreStepsOf ask reply mine

-- a message asks this
abbrev pub Asks : Message → Ask → Type 0
Asks (messages.Request verb target body) ask = ask_of verb target body ≡ Ok (question ask)
Asks message ask = ⊥

-- messages are replied to by an office that goes over by these steps, each in its own
abbrev pub IsCourse : Registered → List Step → List Message → List (List ℕ) → Registered → Type 0
IsCourse old steps messages replies new =
    AreReplies AnswersInSteps (record { office = old; steps = steps }) messages replies (record { office = new; steps = [] })

-- the answer is one for a station that is kept
abbrev pub is_of_kept : DayAnswer → Bool
is_of_kept NoStation = false
is_of_kept (Pending edit) = true
is_of_kept (Computed value) = true

-- the value is that of computing from scratch, or the edit that is named is the last one that changed the day
abbrev pub IsTrueIn : List Edit → SiteNumber → ℤ → DayAnswer → Type 0
IsTrueIn edits site day (Computed value) = value ≡ day_value (inputs_of_day (stations_of edits) site day)
IsTrueIn edits site day (Pending number) = ChangedLast edits site day number
IsTrueIn edits site day NoStation = ⊤

-- What is answered for a day is true where these are the edits that were accepted so far: a value is that of computing from scratch, and any
-- other answer names the last edit that changed the day, or says that none of them added the station, which is said exactly where none did.
abbrev pub IsTrueOf : List Edit → SiteNumber → ℤ → DayAnswer → Type 0
IsTrueOf edits site day told = (is_some (station_of (stations_of edits) site) ≡ is_of_kept told) × IsTrueIn edits site day told

-- The same of each day from one to another, whose answers these are.
abbrev pub AreTrueOf : List Edit → SiteNumber → List ℤ → (ℤ → DayAnswer) → Type 0
AreTrueOf edits site days answers = AllByRecursion (λ day. IsTrueOf edits site day (answers day)) days

-- how far a day is approved by these edits
abbrev pub status_of : List Edit → SiteNumber → ℤ → Status
status_of edits site day = (standing_of edits site day).status

-- the reply that is a daily table of these answers, where these edits were accepted so far: that the station is not kept where none of them
-- added it, and otherwise a row of each day with its status
abbrev pub table_told : List Edit → SiteNumber → ℤ → ℤ → (ℤ → DayAnswer) → List ℕ
table_told edits site from to told =
    table_reply (is_some (station_of (stations_of edits) site))
    (flat_map (λ day. day_row day (status_of edits site day) (told day)) (days_within from to))

-- what a reply tells of a day, where these edits were accepted so far: an answer that is true, with the day's status by them, or that there
-- was no memory for it
abbrev pub TellsDay : List Edit → SiteNumber → ℤ → List ℕ → Type 0
TellsDay edits site day reply =
    ((told : DayAnswer) × (reply ≡ day_reply (status_of edits site day) told) × IsTrueOf edits site day told) ⊎ (reply ≡ memory_reply)

-- and what a daily table tells: such an answer for each of its days, or that the station is not kept, where it is not
abbrev pub TellsDays : List Edit → SiteNumber → ℤ → ℤ → List ℕ → Type 0
TellsDays edits site from to reply =
    ((told : ℤ → DayAnswer) × (reply ≡ table_told edits site from to told) × AreTrueOf edits site (days_within from to) told)
    ⊎ (reply ≡ memory_reply)

-- What a reply to an edit tells where these edits were accepted before it: the number of the edit, under which it comes again by the last
-- history, the next one if it is told as new; or why it was refused; or that there was no memory to read it.
abbrev pub TellsEdit : List Edit → Edit → List ℕ → History → Type 0
TellsEdit edits edit reply last =
    ((told : Accepted) × (reply ≡ edit_told (Ok told)) × (verdict last edit ≡ Repeats told.number)
    × (told.repeated ≡ false → told.number ≡ length edits + 1))
    ⊎ (((refusal : Refusal) × (reply ≡ edit_told (Err refusal))) ⊎ (reply ≡ memory_reply))

-- the edit whose call a stop cuts off before these steps: that of the first of them, where it is the call of one
abbrev pub cut_before : List Step → Option Edit
cut_before [] = None
cut_before (step ∷ steps) = cut_off step

-- A holding is of steps: an office with no claim out that is at what had happened when the lock's value was taken goes over by calls to one
-- that is at what had happened when it was given back. Nothing is said of what was asked and replied then, nor of an office with a claim out.
abbrev pub IsHeldInSteps : Fixed → Holding (List Entry) → Type 0
IsHeldInSteps fixed x = (old : Registered) → NoneOut old → old.history ≡ history_of fixed x.from
    → (steps : List Step) × (new : Registered) × GoesOver old steps new × All IsCall steps × (new.history ≡ history_of fixed x.to) × NoneOut new
