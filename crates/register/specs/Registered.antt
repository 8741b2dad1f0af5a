-- What an office keeps in memory, as contracts see it: what happened, which claims are out, and for what there is room.
use Rattle.std.specs.Prelude.{◌≡◌, ℕ, ◌≤◌, Bool, true, false, not, ◌&&◌, if◌then◌else◌, List, length, take, find, Option, ℤ}
use Rattle.std.specs.List.{list_any}
use Rattle.approval.specs.Kept as kept_statuses
use Rattle.approval.specs.Kept.{KeptSite}
use Rattle.day_cells.specs.Days.{contains_day}
use Rattle.day_cells.specs.KeptDays.{KeptDays}
use Rattle.edits.specs.declared.content.Edit.{Edit}
use Rattle.fixed_units.specs.Quantities.{SiteNumber, same_site}
use Rattle.history.specs.Accepted.{edits_of, stations_at}
use Rattle.history.specs.After.{after_publications}
use Rattle.history.specs.Awaited.{SiteDay, is_day_of, pending_days}
use Rattle.history.specs.Events.{Event, History}
use Rattle.office_inputs.specs.Changes.{changed_days}
use Rattle.office_inputs.specs.Kept as kept_inputs
use Rattle.office_inputs.specs.Kept.{InForce}
use Rattle.recompute.specs.Cells as kept_cells
use Rattle.recompute.specs.Cells.{is_out_in}
use Rattle.recompute.specs.Jobs.{DayJob}
use Rattle.records.specs.declared.formats.Format.{Format}
use Rattle.register.specs.References.{Placed, IsPlacedFor}

-- what happened; beside it the inputs, the cells, the places of references and the statuses as they are kept, and for how many more edits
-- there is room
pub record Registered : Type 0 where
  pub history : History
  pub inputs : InForce
  pub cells : List KeptDays
  pub references : List Placed
  pub statuses : List KeptSite
  pub spare : ℕ

abbrev pub registered : ℕ → Format → InForce → List KeptDays → List Placed → List KeptSite → ℕ → List Event → Registered
registered opened format inputs cells references statuses spare events = record {
  history = record { opened = opened; limits = inputs.limits; format = format; events = events };
  inputs = inputs;
  cells = cells;
  references = references;
  statuses = statuses;
  spare = spare;
}

abbrev pub events_of : Registered → List Event
events_of r = r.history.events

-- the claim of a day is out
abbrev pub is_out : Registered → SiteNumber → ℤ → Bool
is_out r site day = is_out_in r.cells site day

-- no claim is out
abbrev pub NoneOut : Registered → Type 0
NoneOut r = (site : SiteNumber) (day : ℤ) → is_out r site day ≡ false

-- the same claims are out
abbrev pub KeepsClaims : Registered → Registered → Type 0
KeepsClaims old new = (site : SiteNumber) (day : ℤ) → is_out new site day ≡ is_out old site day

-- the claims of the days that the edit changes are no longer out
abbrev pub MarksClaims : Registered → Registered → Edit → Type 0
MarksClaims old new edit = (site : SiteNumber) (day : ℤ)
    → is_out new site day
    ≡ (if same_site edit.site site && contains_day (changed_days (stations_at old.history.events) edit) day then false else is_out old site day)

-- the claim of the job's day is out
abbrev pub TakesClaim : Registered → Registered → DayJob → Type 0
TakesClaim old new job = (site : SiteNumber) (day : ℤ) → is_out new site day ≡ (if is_day_of job.site job.day site day then true else is_out old site day)

-- the claim of the job's day is no longer out
abbrev pub EndsClaim : Registered → Registered → DayJob → Type 0
EndsClaim old new job = (site : SiteNumber) (day : ℤ) → is_out new site day ≡ (if is_day_of job.site job.day site day then false else is_out old site day)

-- the first pending day whose claim is not out, by site, then day
abbrev pub first_unclaimed : Registered → Option SiteDay
first_unclaimed r = find (λ (d : SiteDay). not (is_out r d.site d.day)) (pending_days r.history.events)

-- the first so many of the pending days were published, in order, and their claims are no longer out
pub record IsSettledTo (old new : Registered) (count : ℕ) : Type 0 where
  pub settled : new.history ≡ after_publications old.history (take count (pending_days old.history.events))
  pub claims : (site : SiteNumber) (day : ℤ) → is_out new site day
      ≡ (if list_any (λ (d : SiteDay). is_day_of d.site d.day site day) (take count (pending_days old.history.events)) then false else is_out old site day)

-- room is made for all that an accepted edit adds: what it puts in force, a cell of each day that it changes, its reference, the statuses
-- that it gives and its record
pub record IsReady (r : Registered) (edit : Edit) : Type 0 where
  pub inputs : kept_inputs.HasRoom r.inputs edit
  pub cells : kept_cells.HasRoom r.cells edit.site (changed_days (stations_at r.history.events) edit)
  pub reference : IsPlacedFor r.references edit.reference (length (edits_of r.history.events))
  pub statuses : kept_statuses.HasRoom r.statuses edit
  pub edits : 1 ≤ r.spare
