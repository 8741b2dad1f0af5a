-- What is said to an edit: that it comes again, why it is refused, or that it is accepted.
use Rattle.std.specs.Prelude.{ℕ, ◌+◌, nat_lt, Bool, true, false, if◌then◌else◌, List, [], ◌∷◌, ◌++◌, length, map, filter, Option, Some, None, option_map, ℤ}
use Rattle.approval.specs.Statuses.{first_day_of, spans}
use Rattle.edits.specs.Same.{is_same}
use Rattle.edits.specs.declared.content.Edit.{Edit}
use Rattle.edits.specs.declared.content.What.{What}
use Rattle.edits.specs.declared.content.What.TheVariants.{Decide}
use Rattle.edits.specs.declared.decisions.Decision.TheVariants.{Approve}
use Rattle.fixed_units.specs.Calendar.{calendar}
use Rattle.fixed_units.specs.Quantities.{SiteNumber}
use Rattle.history.specs.Accepted.{Numbered, accepted, edits_of, stations_at, named, cell_count, journal_size}
use Rattle.history.specs.Awaited.{awaited, is_pending, pending_days, value_at}
use Rattle.history.specs.Events.{Event, Accepted, History}
use Rattle.history.specs.Statuses.{locked_at, objection_at}
use Rattle.office_inputs.specs.Refusals as inputs
use Rattle.office_inputs.specs.declared.refusals.Refusal.{Refusal}
use Rattle.office_inputs.specs.declared.refusals.Refusal.TheVariants.{RefReused, Awaits, Locked, HistoryFull, NoComments, JournalFull}
use Rattle.office_inputs.specs.declared.refusals.Full.TheVariants as fulls
use Rattle.records.specs.Sheets.{Record}
use Rattle.records.specs.declared.formats.Format.{Format}
use Rattle.records.specs.declared.formats.Format.TheVariants.{First, Second}
use Rattle.sheets.specs.Sheets.{sheet}

-- the computation sheets that an approval keeps: one of each of its days, of the value from scratch of the inputs in force
abbrev pub sheets_of : List Event → SiteNumber → What → List (List ℕ)
sheets_of events site (Decide from to Approve) = map (λ day. sheet site day (value_at events site day) true) (filter (spans from to) calendar)
sheets_of events site _ = []

abbrev pub sheets_at : List Event → Edit → List (List ℕ)
sheets_at events edit = sheets_of events edit.site edit.what

-- the record of an edit, as it is accepted now
abbrev pub record_of : History → Edit → Record
record_of h edit = record { edit = edit; sheets = sheets_at h.events edit }

-- the events with a record accepted
abbrev pub with_record : History → Record → List Event
with_record h piece = h.events ++ Accepted piece ∷ []

-- the events with an edit accepted
abbrev pub with_edit : History → Edit → List Event
with_edit h edit = with_record h (record_of h edit)

-- the first of two refusals, asked in this order
abbrev pub or_else : Option Refusal → Option Refusal → Option Refusal
or_else None later = later
or_else (Some refusal) later = Some refusal

-- by the stations in force
abbrev pub refused_by_stations : History → Edit → Option Refusal
refused_by_stations h edit = inputs.refusal_of h.limits (stations_at h.events) edit

-- by the statuses of its days
abbrev pub refused_by_statuses : History → Edit → Option Refusal
refused_by_statuses h edit = option_map inputs.refusal_for_objection (objection_at h.events edit)

-- the edit that a day awaits, as a refusal
abbrev pub awaits_by : List Event → SiteNumber → Option ℤ → Option Refusal
awaits_by events site None = None
awaits_by events site (Some day) = option_map (λ number. Awaits day number) (awaited events site day)

-- an approval of days of which one awaits an edit: the first one
abbrev pub awaiting : List Event → SiteNumber → What → Option Refusal
awaiting events site (Decide from to Approve) = awaits_by events site (first_day_of (is_pending events site) from to)
awaiting events site _ = None

abbrev pub refused_as_awaiting : History → Edit → Option Refusal
refused_as_awaiting h edit = awaiting h.events edit.site edit.what

-- an edit that would change an approved day: the first one
abbrev pub refused_as_locked : History → Edit → Option Refusal
refused_as_locked h edit = option_map Locked (locked_at h.events edit)

-- the history has no room for the edit and a publication of each day that would be pending
abbrev pub is_full_of_events : History → Edit → Bool
is_full_of_events h edit = nat_lt h.limits.events (length h.events + 1 + length (pending_days (with_edit h edit)))

-- there would be too many cells
abbrev pub is_full_of_cells : History → Edit → Bool
is_full_of_cells h edit = nat_lt h.limits.cells (cell_count (edits_of (with_edit h edit)))

-- a journal of the first format bars each comment that is not empty
abbrev pub bars : Format → List ℕ → Bool
bars First [] = false
bars First (byte ∷ comment) = true
bars Second comment = false

-- the edit has a comment that the journal's format does not hold
abbrev pub is_comment_barred : History → Edit → Bool
is_comment_barred h edit = bars h.format edit.comment

-- with the record the journal would pass its limit
abbrev pub is_journal_full : History → Edit → Bool
is_journal_full h edit = nat_lt h.limits.journal_bytes (journal_size h.format (accepted (with_edit h edit)))

abbrev pub refused_where : Bool → Refusal → Option Refusal
refused_where test refusal = if test then Some refusal else None

-- for what there is no room, of an edit: its events, its cells, its comment or its record
abbrev pub refused_for_room : History → Edit → Option Refusal
refused_for_room h edit =
    or_else (refused_where (is_full_of_events h edit) (HistoryFull fulls.Events))
    (or_else (refused_where (is_full_of_cells h edit) (HistoryFull fulls.Cells))
    (or_else (refused_where (is_comment_barred h edit) NoComments) (refused_where (is_journal_full h edit) JournalFull)))

-- the first refusal of an edit that comes for the first time
abbrev pub refusal_of : History → Edit → Option Refusal
refusal_of h edit =
    or_else (refused_by_stations h edit)
    (or_else (refused_by_statuses h edit)
    (or_else (refused_as_awaiting h edit) (or_else (refused_as_locked h edit) (refused_for_room h edit))))

pub data Verdict : Type 0 where
  -- it is the accepted edit of this number
  Repeats : ℕ → Verdict
  Refuses : Refusal → Verdict
  Accepts : Verdict

abbrev pub verdict_of_refusal : Option Refusal → Verdict
verdict_of_refusal None = Accepts
verdict_of_refusal (Some refusal) = Refuses refusal

-- the verdict of an edit whose reference names this accepted edit, or none
abbrev pub verdict_by : Option Numbered → Edit → Option Refusal → Verdict
verdict_by None edit refusal = verdict_of_refusal refusal
verdict_by (Some other) edit refusal =
    if is_same other.edit edit then Repeats other.number else Refuses (RefReused other.number)

abbrev pub verdict : History → Edit → Verdict
verdict h edit = verdict_by (named (edits_of h.events) edit.reference) edit (refusal_of h edit)
