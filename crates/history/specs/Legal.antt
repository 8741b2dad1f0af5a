-- Which histories can be.
use Rattle.std.specs.Prelude.{◌≡◌, ℕ, true, List, [], ◌∷◌, ◌++◌, length, map, Some, None, ℤ, pos, ◌+ℤ◌, ◌-ℤ◌}
use Rattle.edits.specs.declared.content.What.{What}
use Rattle.edits.specs.declared.content.What.TheVariants.{Decide}
use Rattle.edits.specs.declared.decisions.Decision.TheVariants.{Approve}
use Rattle.fixed_units.specs.Quantities.{SiteNumber}
use Rattle.history.specs.Accepted.{edits_of, stations_at, named}
use Rattle.history.specs.After.{reopen, go_on}
use Rattle.history.specs.Awaited.{is_pending}
use Rattle.history.specs.Events.{Event, Accepted, Published, Faulted, History}
use Rattle.history.specs.Statuses.{locked_at, objection_at}
use Rattle.history.specs.Verdicts.{awaiting, sheets_at}
use Rattle.office_inputs.specs.Refusals as inputs
use Rattle.office_inputs.specs.declared.limits.Limits.{Limits}
use Rattle.records.specs.Payloads.{Holds}
use Rattle.records.specs.Sheets.{Record}
use Rattle.records.specs.declared.formats.Format.{Format}

-- a record has one sheet for each day that it approves, and no others
abbrev pub HasItsSheets : What → List (List ℕ) → Type 0
HasItsSheets (Decide from to Approve) sheets = pos (length sheets) ≡ (to -ℤ from) +ℤ pos 1
HasItsSheets _ sheets = sheets ≡ []

-- A record may be kept behind these events: it has a sheet for each day that it approves, its reference is that of no edit accepted
-- before, neither the stations in force nor the statuses of its days refuse it, it changes no approved day, and the format holds its
-- comment.
pub record MayBeKept (limits : Limits) (format : Format) (before : List Event) (piece : Record) : Type 0 where
  pub sheets : HasItsSheets piece.edit.what piece.sheets
  pub reference : named (edits_of before) piece.edit.reference ≡ None
  pub stations : inputs.refusal_of limits (stations_at before) piece.edit ≡ None
  pub statuses : objection_at before piece.edit ≡ None
  pub unlocked : locked_at before piece.edit ≡ None
  pub holds : Holds format piece.edit.comment

-- A record is made behind these events: no day that it approves awaits an edit, and its sheets are of the values from scratch, of the
-- inputs in force.
pub record IsMade (before : List Event) (piece : Record) : Type 0 where
  pub awaits_none : awaiting before piece.edit.site piece.edit.what ≡ None
  pub sheets : piece.sheets ≡ sheets_at before piece.edit

-- Each record that was accepted, and each that a fault left the journal in doubt of, may be kept where that happened; and each
-- publication is of a day that is pending before it.
pub record IsOrderly (limits : Limits) (format : Format) (events : List Event) : Type 0 where
  pub accepted : (before after : List Event) (piece : Record) → events ≡ before ++ Accepted piece ∷ after → MayBeKept limits format before piece
  pub doubts : (before after : List Event) (piece : Record) → events ≡ before ++ Faulted (Some piece) ∷ after → MayBeKept limits format before piece
  pub publications : (before after : List Event) (site : SiteNumber) (day : ℤ) → events ≡ before ++ Published site day ∷ after
      → is_pending before site day ≡ true

-- The office was opened with accepted edits, all is in order, and each record that was accepted since is made where that happened.
pub record IsLegal (h : History) : Type 0 where
  pub first : List Record
  pub since : List Event
  pub opened : h ≡ go_on (reopen h.limits h.format first) since
  pub orderly : IsOrderly h.limits h.format h.events
  pub made : (before after : List Event) (piece : Record) → since ≡ before ++ Accepted piece ∷ after → IsMade (map Accepted first ++ before) piece
