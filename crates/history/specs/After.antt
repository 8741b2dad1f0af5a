-- How a history goes on.
use Rattle.std.specs.Prelude.{◌≡◌, ℕ, zero, suc, Bool, true, false, List, [], ◌∷◌, ◌++◌, length, map, reverse, slice_get, Option, Some, None}
use Rattle.history.specs.Awaited.{SiteDay, pending_days}
use Rattle.history.specs.Events.{Event, Accepted, Published, Faulted, History}
use Rattle.history.specs.Verdicts.{record_of, with_record}
use Rattle.history.specs.declared.recorded.NotKept.{NotKept}
use Rattle.history.specs.declared.recorded.NotKept.TheVariants as not_kept
use Rattle.edits.specs.declared.content.Edit.{Edit}
use Rattle.office_inputs.specs.declared.limits.Limits.{Limits}
use Rattle.records.specs.Sheets.{Record}
use Rattle.records.specs.declared.formats.Format.{Format}

-- an office that is opened on these records, of a journal of this format
abbrev pub reopen : Limits → Format → List Record → History
reopen limits format pieces = record { opened = length pieces; limits = limits; format = format; events = map Accepted pieces }

-- a history that goes on by these events
abbrev pub go_on : History → List Event → History
go_on h since = record { opened = h.opened; limits = h.limits; format = h.format; events = h.events ++ since }

-- a record was accepted in an office that was opened with so many
abbrev pub after_record : ℕ → History → Record → History
after_record opened h piece = record { opened = opened; limits = h.limits; format = h.format; events = with_record h piece }

-- an edit was accepted
abbrev pub after_edit : History → Edit → History
after_edit h edit = after_record h.opened h (record_of h edit)

-- a fault of the journal refused an edit, and left the journal in doubt of this record, if of any
abbrev pub after_fault : History → Option Record → History
after_fault h doubt = go_on h (Faulted doubt ∷ [])

-- the value of a day was published
abbrev pub publication : SiteDay → Event
publication d = Published d.site d.day

abbrev pub after_publications : History → List SiteDay → History
after_publications h days = go_on h (map publication days)

-- the first pending day by site, then day: the one that a turn publishes
abbrev pub next_day : History → Option SiteDay
next_day h = slice_get (pending_days h.events) 0

abbrev pub after_publication : History → Option SiteDay → History
after_publication h None = h
after_publication h (Some day) = after_publications h (day ∷ [])

abbrev pub after_turn : History → History
after_turn h = after_publication h (next_day h)

-- so many turns, which end where no day is pending
unfoldable pub after_turns : ℕ → History → History
after_turns zero h = h
after_turns (suc n) h = after_turns n (after_turn h)

-- the publication of every pending day, in order
abbrev pub after_settlement : History → History
after_settlement h = after_publications h (pending_days h.events)

-- Read from the newest event back: the last fault left the journal in doubt of its record, unless an edit was accepted behind it
-- or it left none.
unfoldable pub doubt_back : List Event → Option Record
doubt_back [] = None
doubt_back (Accepted piece ∷ older) = None
doubt_back (Published site day ∷ older) = doubt_back older
doubt_back (Faulted doubt ∷ older) = doubt

-- the record that the journal is in doubt of, if of any
abbrev pub doubt : History → Option Record
doubt h = doubt_back (reverse h.events)

-- whether the journal is in doubt of a record where one was not kept
abbrev pub leaves_doubt : NotKept → Bool
leaves_doubt not_kept.Mend = true
leaves_doubt not_kept.Record = false
leaves_doubt not_kept.Gate = true

-- the record that it is in doubt of then: the one of before where that was not mended, none where the record could not be written, and
-- the record itself where its gate could not be opened
abbrev pub left_by : Option Record → Record → NotKept → Option Record
left_by before piece not_kept.Mend = before
left_by before piece not_kept.Record = None
left_by before piece not_kept.Gate = Some piece

-- what a fault that refuses this edit may leave the journal in doubt of
abbrev pub MayLeaveInDoubt : History → Edit → Option Record → Type 0
MayLeaveInDoubt h edit left = (failed : NotKept) × (left ≡ left_by (doubt h) (record_of h edit) failed)
