-- How far the record of each day is approved, by the accepted edits, and the computation sheet that is kept of an approved day.
use Rattle.std.specs.Prelude.{ℕ, ◌+◌, if◌then◌else◌, List, [], ◌∷◌, length, reverse, slice_get, Option, Some, None, ℤ, ◌-ℤ◌, unsigned_abs}
use Rattle.approval.specs.Statuses.{Standing, worked, standing_after, is_approved, objection_of, first_approved, spans}
use Rattle.approval.specs.declared.objections.Objection.{Objection}
use Rattle.approval.specs.declared.status.Status.{Status}
use Rattle.edits.specs.declared.content.Edit.{Edit}
use Rattle.edits.specs.declared.content.What.{What}
use Rattle.edits.specs.declared.content.What.TheVariants.{Decide}
use Rattle.edits.specs.declared.decisions.Decision.TheVariants.{Approve}
use Rattle.fixed_units.specs.Quantities.{SiteNumber}
use Rattle.history.specs.Accepted.{edits_of, changes, stations_at, record_numbered}
use Rattle.history.specs.Events.{Event}
use Rattle.office_inputs.specs.Changes.{changed_days}
use Rattle.office_inputs.specs.Stations.{stations_of}
use Rattle.records.specs.Sheets.{Record}

-- Read from the newest edit back: how a day stands by the accepted edits, each of which changed it or not on the stations in force before
-- it.
unfoldable pub standing_back : List Edit → SiteNumber → ℤ → Standing
standing_back [] site day = worked
standing_back (edit ∷ older) site day =
    standing_after (length older + 1) edit (changes (stations_of (reverse older)) edit site day) site day (standing_back older site day)

abbrev pub standing_of : List Edit → SiteNumber → ℤ → Standing
standing_of edits site day = standing_back (reverse edits) site day

-- how a day stands, also where its site is not kept
abbrev pub standing_at : List Event → SiteNumber → ℤ → Standing
standing_at events site day = standing_of (edits_of events) site day

abbrev pub status_at : List Event → SiteNumber → ℤ → Status
status_at events site day = (standing_at events site day).status

-- why the statuses of its days do not allow an edit
abbrev pub objection_at : List Event → Edit → Option Objection
objection_at events edit = objection_of (λ day. status_at events edit.site day) edit.by edit.what

-- the first approved day among those that an edit changes
abbrev pub locked_at : List Event → Edit → Option ℤ
locked_at events edit = first_approved (λ day. status_at events edit.site day) (changed_days (stations_at events) edit)

-- the sheet of a day in the record of its approval, which has one for each day that it approves, in order: none of any other day
abbrev pub sheet_by : What → List (List ℕ) → ℤ → Option (List ℕ)
sheet_by (Decide from to Approve) sheets day = if spans from to day then slice_get sheets (unsigned_abs (day -ℤ from)) else None
sheet_by _ sheets day = None

abbrev pub sheet_in : ℤ → Record → Option (List ℕ)
sheet_in day piece = sheet_by piece.edit.what piece.sheets day

-- that of a record, where there is one
abbrev pub sheet_of : Option Record → ℤ → Option (List ℕ)
sheet_of None day = None
sheet_of (Some piece) day = sheet_in day piece

-- the sheet that is kept of a day: that of the record by which it is approved
abbrev pub sheet_kept : List Event → SiteNumber → ℤ → Standing → Option (List ℕ)
sheet_kept events site day standing =
    if is_approved standing.status then sheet_of (record_numbered events standing.edit) day else None

abbrev pub stored_sheet : List Event → SiteNumber → ℤ → Option (List ℕ)
stored_sheet events site day = sheet_kept events site day (standing_at events site day)
