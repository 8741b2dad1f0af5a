-- What is kept in memory tells what is read off the history.
use Rattle.std.specs.Prelude.{◌≡◌, ℕ, ◌+◌, ◌<◌, ◌≤◌, ◌^◌, List, length, None, IfSome, ℤ}
use Rattle.approval.specs.Kept.{KeptSite, standing_in}
use Rattle.day_cells.specs.KeptDays.{KeptDays}
use Rattle.day_cells.specs.Spans.{with_days}
use Rattle.edits.specs.declared.content.Edit.{Edit}
use Rattle.fixed_units.specs.Quantities.{SiteNumber, IsDay}
use Rattle.history.specs.Accepted.{Numbered, accepted, edits_of, stations_at, named, days_ever_changed, journal_size}
use Rattle.history.specs.Awaited.{awaited, value_at, pending_days}
use Rattle.history.specs.Events.{Event, History}
use Rattle.history.specs.Legal.{IsLegal}
use Rattle.history.specs.Statuses.{standing_at}
use Rattle.office_inputs.specs.Kept.{in_force}
use Rattle.recompute.specs.Cells.{awaited_in, value_in, span_in}
use Rattle.records.specs.Sheets.{Record}
use Rattle.register.specs.References.{Placed, IsPlacedFor}
use Rattle.register.specs.Registered.{Registered}

-- the cells tell which edit each day awaits, the value of each day that awaits none, and the days of each station from the first to the
-- last that was ever changed
pub record Tells (events : List Event) (cells : List KeptDays) : Type 0 where
  pub awaited_told : (site : SiteNumber) (day : ℤ) → IsDay day → awaited_in cells site day ≡ awaited events site day
  pub value_told : (site : SiteNumber) (day : ℤ) → IsDay day → awaited events site day ≡ None → value_in cells site day ≡ value_at events site day
  pub span_told : (site : SiteNumber) → span_in cells site ≡ with_days None (days_ever_changed (edits_of events) site)

-- the place of each accepted edit is kept for its reference
abbrev pub PlacesAll : List Edit → List Placed → Type 0
PlacesAll edits kept = (reference : List ℕ)
    → IfSome (named edits reference) (λ (n : Numbered). (place : ℕ) × IsPlacedFor kept reference place × (n.number ≡ place + 1))

-- the statuses that are kept tell how each day stands
abbrev pub TellsStatuses : List Event → List KeptSite → Type 0
TellsStatuses events kept = (site : SiteNumber) (day : ℤ) → IsDay day → standing_in kept site day ≡ standing_at events site day

-- the events, and a publication of each pending day, keep to the limit
abbrev pub KeepsToTheLimit : History → Type 0
KeepsToTheLimit h = length h.events + length (pending_days h.events) ≤ h.limits.events

-- the history is legal, and all that is kept beside it is what is read off it; its events and a publication of each pending day can be
-- counted
pub record Keeps (r : Registered) (pieces : List Record) (events journal_bytes : ℕ) : Type 0 where
  pub legal : IsLegal r.history
  pub stations : in_force r.inputs ≡ stations_at r.history.events
  pub pieces_are : pieces ≡ accepted r.history.events
  pub events_are : events ≡ length r.history.events
  pub journal_is : journal_bytes ≡ journal_size r.history.format (accepted r.history.events)
  pub journal_fits : journal_bytes < 2 ^ 64
  pub cells_tell : Tells r.history.events r.cells
  pub statuses_tell : TellsStatuses r.history.events r.statuses
  pub places : PlacesAll (edits_of r.history.events) r.references
  pub fits : length r.history.events + length (pending_days r.history.events) < 2 ^ 64
