-- What is found in a shared office by a look and by a worker, and what a worker does to it.
use Rattle.std.specs.Prelude.{◌≡◌, ◌≢◌, ◌↔◌, ◌⊎◌, ℕ, List, [], ◌∷◌, length, Option, Some, None, IsSome, option_map, Result, Ok, Err, ⊤, ℤ}
use Rattle.fixed_units.specs.Quantities.{SiteNumber}
use Rattle.fixed_units.specs.declared.texts.NoMemory.{NoMemory}
use Rattle.history.specs.After.{publication}
use Rattle.history.specs.Awaited.{awaited, pending_days}
use Rattle.history.specs.Events.{Event, History}
use Rattle.office.specs.Steps.{Step, AClaim, ALook, APublication}
use Rattle.recompute.specs.Jobs.{DayJob}
use Rattle.recompute.specs.declared.jobs.Publish.{Publish}
use Rattle.recompute.specs.declared.jobs.Publish.TheVariants.{Settled, Superseded, Foreign, Published}
use Rattle.register.specs.Asked.{day_of, job_at, next_after}
use Rattle.register.specs.Registered.{Registered, KeepsClaims, TakesClaim, first_unclaimed}
use Rattle.shared_office.specs.declared.shared.Found.{Found}
use Rattle.shared_office.specs.declared.shared.Found.TheVariants.{Job, Nothing, Drained}
use Rattle.shared_office.specs.declared.shared.Looked.{Looked}

-- What a worker finds, and which claims are out then: the job of the first pending day whose claim is not out, whose claim is out from
-- then on; where there is none and the end was told, that of the first pending day; no job where the end was not told, and none ever
-- again where it was and no day is pending.
abbrev pub Finds : Registered → Option ℕ → Registered → Found → Type 0
Finds old ending new (Job job) =
    ((Some job ≡ option_map (job_at old.history.events) (first_unclaimed old)) × TakesClaim old new job)
    ⊎ ((first_unclaimed old ≡ None) × IsSome ending
    × (Some job ≡ option_map (job_at old.history.events) (next_after None (pending_days old.history.events))) × KeepsClaims old new)
Finds old ending new Nothing = (first_unclaimed old ≡ None) × (ending ≡ None) × KeepsClaims old new
Finds old ending new Drained = IsSome ending × (pending_days old.history.events ≡ []) × KeepsClaims old new

-- what a worker finds by a claim, and by a look
abbrev pub found_by_claim : Result (Option DayJob) NoMemory → Result Found NoMemory
found_by_claim (Ok (Some job)) = Ok (Job job)
found_by_claim (Ok None) = Ok Nothing
found_by_claim (Err failed) = Err failed

abbrev pub found_by_look : Result (Option DayJob) NoMemory → Result Found NoMemory
found_by_look (Ok (Some job)) = Ok (Job job)
found_by_look (Ok None) = Ok Drained
found_by_look (Err failed) = Err failed

-- the step by which a worker finds this: a claim, or a look for the first pending day
abbrev pub FindsBy : Step → Result Found NoMemory → Type 0
FindsBy (AClaim answer) found = found ≡ found_by_claim answer
FindsBy (ALook None answer) found = found ≡ found_by_look answer
FindsBy step found = ⊥

-- a look tells the job of the first pending day after the last one, or of all, and how many days are pending
abbrev pub IsLooked : History → Option (SiteNumber × ℤ) → Looked → Type 0
IsLooked h last looked =
    (looked.job ≡ option_map (job_at h.events) (next_after last (pending_days h.events))) × (looked.pending ≡ length (pending_days h.events))

-- what a publication adds, by what became of it
abbrev pub published_by : Publish → DayJob → List Event
published_by Published job = publication (day_of job) ∷ []
published_by Settled job = []
published_by (Superseded edit) job = []
published_by Foreign job = []

-- a job comes out as published exactly where its day awaits the edit that the job awaits, and never as foreign
abbrev pub ComesOutAsAwaited : History → DayJob → Publish → Type 0
ComesOutAsAwaited h job outcome = (outcome ≡ Published ↔ awaited h.events job.site job.day ≡ Some job.awaits) × (outcome ≢ Foreign)

-- what a worker does while it has the office: a claim, a look for the first pending day or the publication of a job
abbrev pub IsWorkStep : Step → Type 0
IsWorkStep (AClaim answer) = ⊤
IsWorkStep (ALook None answer) = ⊤
IsWorkStep (APublication job outcome) = ⊤
IsWorkStep step = ⊥

-- what a worker adds by a step
abbrev pub added_by_work : Step → List Event
added_by_work (APublication job outcome) = published_by outcome job
added_by_work step = []
