-- What is answered of a history: the verdict of an edit, the answer of a day, jobs, and what becomes of a publication.
use Rattle.std.specs.Prelude.{◌≡◌, Bool, ◌&&◌, ◌||◌, List, find, slice_get, Option, Some, None, is_none, unwrap_or, ℤ, int_lt}
use Rattle.day_inputs.specs.Equality.{same_inputs}
use Rattle.edits.specs.declared.content.Edit.{Edit}
use Rattle.fixed_units.specs.Quantities.{SiteNumber, site_place, same_site}
use Rattle.history.specs.Accepted.{Numbered, edits_of, stations_at, named}
use Rattle.history.specs.Awaited.{SiteDay, DayAnswer, awaited, inputs_at, answer_by}
use Rattle.history.specs.Awaited as days
use Rattle.history.specs.Events.{Event, History}
use Rattle.history.specs.Sheets.{Shown}
use Rattle.history.specs.Sheets as shown
use Rattle.history.specs.Verdicts.{Verdict, Repeats, Refuses, Accepts, or_else, refused_by_stations, refused_by_statuses, refused_as_awaiting, refused_as_locked, record_of}
use Rattle.office_inputs.specs.Changes.{changed_days}
use Rattle.office_inputs.specs.Places.{IsPlaceOf}
use Rattle.office_inputs.specs.declared.refusals.Refusal.{Refusal}
use Rattle.office_inputs.specs.declared.refusals.Refusal.TheVariants.{RefReused}
use Rattle.recompute.specs.Jobs.{DayJob, outcome_by}
use Rattle.recompute.specs.declared.jobs.Publish.{Publish}
use Rattle.register.specs.declared.answers.Answer.{Answer}
use Rattle.register.specs.declared.answers.Answer.TheVariants as answers
use Rattle.register.specs.declared.answers.Sheet.{Sheet}
use Rattle.register.specs.declared.answers.Sheet.TheVariants as sheets
use Rattle.register.specs.declared.judged.Judged.{Judged}
use Rattle.register.specs.declared.judged.Judged.TheVariants as judged
use Rattle.register.specs.declared.judged.NotReadmitted.{NotReadmitted}
use Rattle.register.specs.declared.judged.NotReadmitted.TheVariants as opening

-- the verdict that is told
abbrev pub verdict_told : Judged → Verdict
verdict_told (judged.Repeated number) = Repeats number
verdict_told (judged.Refused refusal) = Refuses refusal
verdict_told (judged.Accepted piece place days) = Accepts

-- with an acceptance come the days that the edit changes
abbrev pub TellsChanged : History → Edit → Judged → Type 0
TellsChanged h edit (judged.Repeated number) = Unit {0}
TellsChanged h edit (judged.Refused refusal) = Unit {0}
TellsChanged h edit (judged.Accepted piece place days) = days ≡ changed_days (stations_at h.events) edit

-- and where the station of its site stands
abbrev pub TellsPlace : History → Edit → Judged → Type 0
TellsPlace h edit (judged.Repeated number) = Unit {0}
TellsPlace h edit (judged.Refused refusal) = Unit {0}
TellsPlace h edit (judged.Accepted piece place days) = IsPlaceOf (stations_at h.events) edit.site place

-- and its record
abbrev pub TellsRecord : History → Edit → Judged → Type 0
TellsRecord h edit (judged.Repeated number) = Unit {0}
TellsRecord h edit (judged.Refused refusal) = Unit {0}
TellsRecord h edit (judged.Accepted piece place days) = piece ≡ record_of h edit

-- the edit's days have to be looked for: its reference names no accepted edit, and the stations in force do not refuse it
abbrev pub needs_days : History → Edit → Bool
needs_days h edit = is_none (named (edits_of h.events) edit.reference) && is_none (refused_by_stations h edit)

-- an edit that comes for the first time is refused without a look at the days that it changes
abbrev pub refused_before_days : History → Edit → Option Refusal
refused_before_days h edit = or_else (refused_by_stations h edit) (or_else (refused_by_statuses h edit) (refused_as_awaiting h edit))

-- why a record is not accepted among those that an office is opened with
abbrev pub reused : Option Numbered → Option Refusal
reused None = None
reused (Some other) = Some (RefReused other.number)

-- without a look at the days that it changes
abbrev pub refused_at_once : History → Edit → Option Refusal
refused_at_once h edit =
    or_else (reused (named (edits_of h.events) edit.reference)) (or_else (refused_by_stations h edit) (refused_by_statuses h edit))

abbrev pub readmission_refusal : History → Edit → Option Refusal
readmission_refusal h edit =
    or_else (reused (named (edits_of h.events) edit.reference))
    (or_else (refused_by_stations h edit) (or_else (refused_by_statuses h edit) (refused_as_locked h edit)))

-- the answer that is told
abbrev pub answer_told : Answer → DayAnswer
answer_told answers.NoStation = days.NoStation
answer_told (answers.Pending number) = days.Pending number
answer_told (answers.Computed value) = days.Computed value.now

-- the sheet that is told
abbrev pub sheet_told : Sheet → Shown
sheet_told sheets.NoStation = shown.NoStation
sheet_told (sheets.Pending number) = shown.Pending number
sheet_told (sheets.Kept text) = shown.Text text.now
sheet_told (sheets.Computed text) = shown.Text text

-- the job of a pending day, on the inputs in force
abbrev pub job_at : List Event → SiteDay → DayJob
job_at events d = record {
  site = d.site;
  day = d.day;
  awaits = unwrap_or (awaited events d.site d.day) 0;
  inputs = inputs_at events d.site d.day;
}

-- a day comes after a day of a site, by site, then day
abbrev pub comes_after : SiteNumber → ℤ → SiteDay → Bool
comes_after site day d = int_lt (site_place site) (site_place d.site) || (same_site site d.site && int_lt day d.day)

-- the first of some days after the last one, or of all
abbrev pub next_after : Option (SiteNumber × ℤ) → List SiteDay → Option SiteDay
next_after None days = slice_get days 0
next_after (Some last) days = find (comes_after last.0 last.1) days

-- a day as a pair
abbrev pub as_pair : SiteDay → SiteNumber × ℤ
as_pair d = (d.site, d.day)

-- what becomes of a publication
abbrev pub outcome_at : List Event → DayJob → Publish
outcome_at events job = outcome_by (awaited events job.site job.day) job.awaits (same_inputs job.inputs (inputs_at events job.site job.day))

-- the day of a job
abbrev pub day_of : DayJob → SiteDay
day_of job = record { site = job.site; day = job.day }

-- what is told of a record that is not accepted: its refusal, or that there was no memory where it is not refused at once
abbrev pub IsNotReadmitted : History → Edit → NotReadmitted → Type 0
IsNotReadmitted h edit (opening.Refused told) = readmission_refusal h edit ≡ Some told
IsNotReadmitted h edit opening.NoMemory = refused_at_once h edit ≡ None
