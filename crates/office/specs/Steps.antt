-- What happens in an office, step by step: its calls with their answers, and stops with the openings behind them.
use Rattle.std.specs.Prelude.{◌≡◌, ◌⊎◌, ℕ, ◌<◌, if◌then◌else◌, List, [], ◌∷◌, ◌++◌, length, flat_map, Option, Some, None, option_map, Result, Ok, Err, ℤ}
use Rattle.edits.specs.declared.content.Edit.{Edit}
use Rattle.fixed_units.specs.Quantities.{SiteNumber, IsDay}
use Rattle.fixed_units.specs.declared.texts.NoMemory.{NoMemory}
use Rattle.history.specs.Accepted.{accepted}
use Rattle.history.specs.After.{after_publication, after_publications, doubt, reopen}
use Rattle.history.specs.Awaited.{DayAnswer, answer_at, pending_days}
use Rattle.history.specs.Events.{History}
use Rattle.history.specs.Verdicts.{Accepts, record_of, verdict}
use Rattle.office.specs.Edits.{Edits, EditsClaims}
use Rattle.office.specs.declared.offices.Accepted.{Accepted}
use Rattle.office_inputs.specs.declared.refusals.Refusal.{Refusal}
use Rattle.recompute.specs.Jobs.{DayJob}
use Rattle.recompute.specs.declared.jobs.Publish.{Publish}
use Rattle.recompute.specs.declared.jobs.Publish.TheVariants.{Settled, Superseded, Foreign, Published}
use Rattle.records.specs.Sheets.{Record}
use Rattle.register.specs.Asked.{as_pair, day_of, job_at, next_after, outcome_at}
use Rattle.register.specs.Registered.{Registered, IsSettledTo, KeepsClaims, TakesClaim, EndsClaim, NoneOut, first_unclaimed}

pub data Step : Type 0 where
  -- a call of the office, with what was answered
  AnEdit : Edit → Result Accepted Refusal → Step
  AClaim : Result (Option DayJob) NoMemory → Step
  ALook : Option (SiteNumber × ℤ) → Result (Option DayJob) NoMemory → Step
  APublication : DayJob → Publish → Step
  ATurn : Result (Option (SiteNumber × ℤ)) NoMemory → Step
  ASettlement : Result ℕ NoMemory → Step
  AnAnswer : SiteNumber → ℤ → DayAnswer → Step
  -- a stop, which cut off the call of this edit or of none, and an opening behind it, which found the records of the accepted edits and
  -- perhaps this one more
  AStop : Option Edit → Option Record → Step

-- nothing has happened, and the same claims are out
pub record IsAsBefore (old new : Registered) : Type 0 where
  pub history : new.history ≡ old.history
  pub claims : KeepsClaims old new

-- a claim gives the job of the first pending day whose claim is not out, and that claim is out then
abbrev pub Claims : Registered → Option DayJob → Registered → Type 0
Claims old None new = IsAsBefore old new
Claims old (Some job) new = (new.history ≡ old.history) × TakesClaim old new job

-- what becomes of a publication
abbrev pub Publishes : Registered → DayJob → Publish → Registered → Type 0
Publishes old job Published new = (new.history ≡ after_publications old.history (day_of job ∷ [])) × EndsClaim old new job
Publishes old job Settled new = IsAsBefore old new
Publishes old job (Superseded edit) new = IsAsBefore old new
Publishes old job Foreign new = IsAsBefore old new

-- The record that may be found beside those of the accepted edits: the one in doubt; or where the call of an edit was cut off whose
-- verdict is to accept it, the record of that edit. Nothing else is found.
abbrev pub MayBeFound : History → Option Edit → Record → Type 0
MayBeFound h cut piece =
    (doubt h ≡ Some piece) ⊎ ((edit : Edit) × (cut ≡ Some edit) × (verdict h edit ≡ Accepts) × (piece ≡ record_of h edit))

-- an office that is opened on the records of the accepted edits and perhaps one more goes on from these, with no claim out
abbrev pub IsReopened : Registered → Option Edit → Option Record → Registered → Type 0
IsReopened old cut None new = (new.history ≡ reopen old.history.limits old.history.format (accepted old.history.events)) × NoneOut new
IsReopened old cut (Some piece) new =
    MayBeFound old.history cut piece × (new.history ≡ reopen old.history.limits old.history.format (accepted old.history.events ++ piece ∷ [])) × NoneOut new

-- an office goes over by this step
abbrev pub IsStep : Registered → Step → Registered → Type 0
IsStep old (AnEdit edit result) new = Edits old.history edit new.history result × EditsClaims old edit new result
IsStep old (AClaim (Ok job)) new = (job ≡ option_map (job_at old.history.events) (first_unclaimed old)) × Claims old job new
IsStep old (AClaim (Err failed)) new = IsAsBefore old new
IsStep old (ALook last (Ok job)) new =
    (job ≡ option_map (job_at old.history.events) (next_after last (pending_days old.history.events))) × IsAsBefore old new
IsStep old (ALook last (Err failed)) new = IsAsBefore old new
IsStep old (APublication job outcome) new = IsDay job.day × (outcome ≡ outcome_at old.history.events job) × Publishes old job outcome new
IsStep old (ATurn (Ok day)) new =
    (day ≡ option_map as_pair (first_unclaimed old)) × (new.history ≡ after_publication old.history (first_unclaimed old)) × KeepsClaims old new
IsStep old (ATurn (Err failed)) new = IsAsBefore old new
IsStep old (ASettlement (Ok count)) new = (count ≡ length (pending_days old.history.events)) × IsSettledTo old new count
IsStep old (ASettlement (Err failed)) new = (count : ℕ) × (count < length (pending_days old.history.events)) × IsSettledTo old new count
IsStep old (AnAnswer site day told) new = (told ≡ answer_at old.history.events site day) × IsAsBefore old new
IsStep old (AStop cut found) new = IsReopened old cut found new

-- and by these steps, one behind another
abbrev pub GoesOver : Registered → List Step → Registered → Type 0
GoesOver old [] new = new ≡ old
GoesOver old (step ∷ steps) new = (next : Registered) × IsStep old step next × GoesOver next steps new

-- the edits that a step adds to the accepted ones: one that is acknowledged with a number of its own, or found at an opening
abbrev pub added_by : Step → List Edit
added_by (AnEdit edit (Ok told)) = if told.repeated then [] else edit ∷ []
added_by (AnEdit edit (Err refusal)) = []
added_by (AClaim result) = []
added_by (ALook last result) = []
added_by (APublication job outcome) = []
added_by (ATurn result) = []
added_by (ASettlement result) = []
added_by (AnAnswer site day told) = []
added_by (AStop cut None) = []
added_by (AStop cut (Some piece)) = piece.edit ∷ []

abbrev pub added : List Step → List Edit
added steps = flat_map added_by steps

-- the step is a call, and no stop
abbrev pub IsCall : Step → Type 0
IsCall (AStop cut found) = ⊥
IsCall (AnEdit edit result) = Unit {0}
IsCall (AClaim result) = Unit {0}
IsCall (ALook last result) = Unit {0}
IsCall (APublication job outcome) = Unit {0}
IsCall (ATurn result) = Unit {0}
IsCall (ASettlement result) = Unit {0}
IsCall (AnAnswer site day told) = Unit {0}

-- the edit whose call a stop inside this step cuts off, where it is the call of one
abbrev pub cut_off : Step → Option Edit
cut_off (AnEdit edit result) = Some edit
cut_off (AClaim result) = None
cut_off (ALook last result) = None
cut_off (APublication job outcome) = None
cut_off (ATurn result) = None
cut_off (ASettlement result) = None
cut_off (AnAnswer site day told) = None
cut_off (AStop cut found) = None

-- a claim or a look that gave this job
abbrev pub Gives : Step → DayJob → Type 0
Gives (AClaim (Ok given)) job = given ≡ Some job
Gives (AClaim (Err failed)) job = ⊥
Gives (ALook last (Ok given)) job = given ≡ Some job
Gives (ALook last (Err failed)) job = ⊥
Gives (AnEdit edit result) job = ⊥
Gives (APublication other outcome) job = ⊥
Gives (ATurn result) job = ⊥
Gives (ASettlement result) job = ⊥
Gives (AnAnswer site day told) job = ⊥
Gives (AStop cut found) job = ⊥
