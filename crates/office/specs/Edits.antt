-- What an edit comes to.
use Rattle.std.specs.Prelude.{◌≡◌, ◌⊎◌, ℕ, ◌+◌, Bool, true, false, not, List, [], ◌∷◌, ◌++◌, length, Option, is_some, Result, Ok, Err}
use Rattle.edits.specs.declared.content.Edit.{Edit}
use Rattle.history.specs.Accepted.{accepted}
use Rattle.history.specs.After.{after_edit, after_fault, doubt, leaves_doubt, left_by}
use Rattle.history.specs.Events.{History}
use Rattle.history.specs.Verdicts.{Repeats, Refuses, Accepts, record_of, verdict}
use Rattle.history.specs.declared.recorded.NotKept.{NotKept}
use Rattle.history.specs.declared.recorded.NotKept.TheVariants as not_kept
use Rattle.journal.specs.Keeping.{AppendCalls}
use Rattle.journal.specs.declared.keeping.AppendFault.TheVariants as append
use Rattle.office.specs.declared.offices.Accepted.{Accepted}
use Rattle.office_inputs.specs.declared.refusals.Refusal.{Refusal}
use Rattle.office_inputs.specs.declared.refusals.Refusal.TheVariants.{RefReused, NoStation, StationExists, Limit, NoRating, RatingExists, PeriodOverlap, NoEntry, NotInReview, SamePerson, Awaits, NotApproved, AlreadyApproved, Locked, HistoryFull, NoComments, JournalFull, NoMemory, JournalFault}
use Rattle.records.specs.Sheets.{Record}
use Rattle.register.specs.Registered.{Registered, KeepsClaims, MarksClaims}

-- it comes again and nothing happens, or it is accepted with the next number
abbrev pub IsTaken : History → Edit → History → ℕ → Bool → Type 0
IsTaken old edit new number true = (verdict old edit ≡ Repeats number) × (new ≡ old)
IsTaken old edit new number false =
    (verdict old edit ≡ Accepts) × (number ≡ length (accepted old.events) + 1) × (new ≡ after_edit old edit)

-- it is refused by the history, and nothing happens
abbrev pub IsRefused : History → Edit → History → Refusal → Type 0
IsRefused old edit new refusal = (verdict old edit ≡ Refuses refusal) × (new ≡ old)

-- A fault of the journal refused an edit that nothing else refused. Which record the journal is in doubt of then hangs on what failed,
-- and it is told whether it is in doubt of one.
pub record IsFaulted (old : History) (edit : Edit) (new : History) (in_doubt : Bool) : Type 0 where
  pub failed : NotKept
  pub left : Option Record
  pub lawful : verdict old edit ≡ Accepts
  pub told : in_doubt ≡ leaves_doubt failed
  pub left_is : left ≡ left_by (doubt old) (record_of old edit) failed
  pub left_told : is_some left ≡ in_doubt
  pub faulted : new ≡ after_fault old left

-- what happens by the refusal that is told
abbrev pub IsRefusedBy : History → Edit → History → Refusal → Type 0
IsRefusedBy old edit new (RefReused number) = IsRefused old edit new (RefReused number)
IsRefusedBy old edit new NoStation = IsRefused old edit new NoStation
IsRefusedBy old edit new StationExists = IsRefused old edit new StationExists
IsRefusedBy old edit new (Limit which) = IsRefused old edit new (Limit which)
IsRefusedBy old edit new NoRating = IsRefused old edit new NoRating
IsRefusedBy old edit new RatingExists = IsRefused old edit new RatingExists
IsRefusedBy old edit new (PeriodOverlap from) = IsRefused old edit new (PeriodOverlap from)
IsRefusedBy old edit new NoEntry = IsRefused old edit new NoEntry
IsRefusedBy old edit new (NotInReview day) = IsRefused old edit new (NotInReview day)
IsRefusedBy old edit new (SamePerson day) = IsRefused old edit new (SamePerson day)
IsRefusedBy old edit new (Awaits day number) = IsRefused old edit new (Awaits day number)
IsRefusedBy old edit new (NotApproved day) = IsRefused old edit new (NotApproved day)
IsRefusedBy old edit new (AlreadyApproved day) = IsRefused old edit new (AlreadyApproved day)
IsRefusedBy old edit new (Locked day) = IsRefused old edit new (Locked day)
IsRefusedBy old edit new (HistoryFull full) = IsRefused old edit new (HistoryFull full)
IsRefusedBy old edit new NoComments = IsRefused old edit new NoComments
IsRefusedBy old edit new JournalFull = IsRefused old edit new JournalFull
IsRefusedBy old edit new NoMemory = new ≡ old
IsRefusedBy old edit new (JournalFault in_doubt) = IsFaulted old edit new in_doubt

-- what happens by what is answered
abbrev pub Edits : History → Edit → History → Result Accepted Refusal → Type 0
Edits old edit new (Ok told) = IsTaken old edit new told.number told.repeated
Edits old edit new (Err refusal) = IsRefusedBy old edit new refusal

-- the disk is asked only where an edit is accepted that does not come again, and where a fault refuses it
abbrev pub is_fault : Refusal → Bool
is_fault (RefReused number) = false
is_fault NoStation = false
is_fault StationExists = false
is_fault (Limit which) = false
is_fault NoRating = false
is_fault RatingExists = false
is_fault (PeriodOverlap from) = false
is_fault NoEntry = false
is_fault (NotInReview day) = false
is_fault (SamePerson day) = false
is_fault (Awaits day number) = false
is_fault (NotApproved day) = false
is_fault (AlreadyApproved day) = false
is_fault (Locked day) = false
is_fault (HistoryFull full) = false
is_fault NoComments = false
is_fault JournalFull = false
is_fault NoMemory = false
is_fault (JournalFault in_doubt) = true

abbrev pub asks_disk : Result Accepted Refusal → Bool
asks_disk (Ok told) = not told.repeated
asks_disk (Err refusal) = is_fault refusal

abbrev pub TakesClaims : Registered → Edit → Registered → Bool → Type 0
TakesClaims old edit new true = KeepsClaims old new
TakesClaims old edit new false = MarksClaims old new edit

-- where it is accepted, the claims of the days that it changes are no longer out
abbrev pub EditsClaims : Registered → Edit → Registered → Result Accepted Refusal → Type 0
EditsClaims old edit new (Ok told) = TakesClaims old edit new told.repeated
EditsClaims old edit new (Err refusal) = KeepsClaims old new

-- the calls of a mend that was done, if one was due
abbrev pub mended : Bool → List Bool
mended true = false ∷ false ∷ []
mended false = []

-- a mend that failed
abbrev pub FailsToMend : List Bool → Type 0
FailsToMend calls = (calls ≡ true ∷ []) ⊎ (calls ≡ false ∷ true ∷ [])

-- an append that failed behind a mend
abbrev pub FailsToAppend : Bool → Bool → List Bool → Type 0
FailsToAppend doubtful in_doubt calls =
    (more : List Bool) × (calls ≡ mended doubtful ++ more) × AppendCalls {T = ℕ} (Err (append.Fault in_doubt)) more

-- the calls up to the one that failed, of a journal that was in doubt or was not
abbrev pub FailedCalls : Bool → NotKept → List Bool → Type 0
FailedCalls doubtful not_kept.Mend calls = (doubtful ≡ true) × FailsToMend calls
FailedCalls doubtful not_kept.Record calls = FailsToAppend doubtful false calls
FailedCalls doubtful not_kept.Gate calls = FailsToAppend doubtful true calls

-- the calls of the disk where a fault refuses an edit tell what failed
abbrev pub FaultCalls : History → Edit → History → Bool → List Bool → Type 0
FaultCalls old edit new in_doubt calls =
    (fault : IsFaulted old edit new in_doubt) × FailedCalls (is_some (doubt old)) fault.failed calls

-- the calls of the disk in an edit
abbrev pub RefusalCalls : History → Edit → History → Refusal → List Bool → Type 0
RefusalCalls old edit new (RefReused number) calls = calls ≡ []
RefusalCalls old edit new NoStation calls = calls ≡ []
RefusalCalls old edit new StationExists calls = calls ≡ []
RefusalCalls old edit new (Limit which) calls = calls ≡ []
RefusalCalls old edit new NoRating calls = calls ≡ []
RefusalCalls old edit new RatingExists calls = calls ≡ []
RefusalCalls old edit new (PeriodOverlap from) calls = calls ≡ []
RefusalCalls old edit new NoEntry calls = calls ≡ []
RefusalCalls old edit new (NotInReview day) calls = calls ≡ []
RefusalCalls old edit new (SamePerson day) calls = calls ≡ []
RefusalCalls old edit new (Awaits day number) calls = calls ≡ []
RefusalCalls old edit new (NotApproved day) calls = calls ≡ []
RefusalCalls old edit new (AlreadyApproved day) calls = calls ≡ []
RefusalCalls old edit new (Locked day) calls = calls ≡ []
RefusalCalls old edit new (HistoryFull full) calls = calls ≡ []
RefusalCalls old edit new NoComments calls = calls ≡ []
RefusalCalls old edit new JournalFull calls = calls ≡ []
RefusalCalls old edit new NoMemory calls = calls ≡ []
RefusalCalls old edit new (JournalFault in_doubt) calls = FaultCalls old edit new in_doubt calls

abbrev pub TakenCalls : Bool → Bool → List Bool → Type 0
TakenCalls doubtful true calls = calls ≡ []
TakenCalls doubtful false calls = calls ≡ mended doubtful ++ (false ∷ false ∷ false ∷ false ∷ [])

abbrev pub EditCalls : History → Edit → History → Result Accepted Refusal → List Bool → Type 0
EditCalls old edit new (Ok told) calls = TakenCalls (is_some (doubt old)) told.repeated calls
EditCalls old edit new (Err refusal) calls = RefusalCalls old edit new refusal calls
