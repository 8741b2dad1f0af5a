-- The edits that were accepted, and what they make of the record.
use Rattle.std.specs.Prelude.{ℕ, ◌+◌, Bool, false, not, ◌&&◌, ◌||◌, List, [], ◌∷◌, length, reverse, map, filter, find, slice_get, sum_by, bytes_eq, Option, None, option_map, ℤ, ◌-◌, ◌==◌, if◌then◌else◌}
use Rattle.day_cells.specs.Spans.{with_days, days_of}
use Rattle.edits.specs.declared.content.Edit.{Edit}
use Rattle.fixed_units.specs.Calendar.{calendar}
use Rattle.fixed_units.specs.Quantities.{SiteNumber, same_site}
use Rattle.history.specs.Events.{Event, Accepted, Published, Faulted}
use Rattle.office_inputs.specs.Changes.{keeps_day}
use Rattle.office_inputs.specs.Stations.{stations_of}
use Rattle.station_inputs.specs.Stations.{StationState}
use Rattle.records.specs.Frames.{header_length, before_payload}
use Rattle.records.specs.Payloads.{payload}
use Rattle.records.specs.Sheets.{Record}
use Rattle.records.specs.declared.formats.Format.{Format}

-- the records of the accepted edits
abbrev pub accepted : List Event → List Record
accepted [] = []
accepted (Accepted piece ∷ events) = piece ∷ accepted events
accepted (Published site day ∷ events) = accepted events
accepted (Faulted doubt ∷ events) = accepted events

abbrev pub edit_of : Record → Edit
edit_of piece = piece.edit

-- the accepted edits, which are numbered from 1 in this order
abbrev pub edits_of : List Event → List Edit
edits_of events = map edit_of (accepted events)

-- the accepted record of a number, from 1 on
abbrev pub record_numbered : List Event → ℕ → Option Record
record_numbered events number = if number == 0 then None else slice_get (accepted events) (number - 1)

-- and its edit
abbrev pub edit_numbered : List Event → ℕ → Option Edit
edit_numbered events number = option_map edit_of (record_numbered events number)

-- the stations in force
abbrev pub stations_at : List Event → List StationState
stations_at events = stations_of (edits_of events)

-- the edit changes this day of this site, on the stations in force before it
abbrev pub changes : List StationState → Edit → SiteNumber → ℤ → Bool
changes stations edit site day = same_site edit.site site && not (keeps_day stations edit day)

-- an accepted edit with its number
pub record Numbered : Type 0 where
  pub number : ℕ
  pub edit : Edit

unfoldable pub numbered_from : ℕ → List Edit → List Numbered
numbered_from number [] = []
numbered_from number (edit ∷ edits) = record { number = number; edit = edit } ∷ numbered_from (number + 1) edits

-- the accepted edit that a reference names
abbrev pub named : List Edit → List ℕ → Option Numbered
named edits reference = find (λ (n : Numbered). bytes_eq n.edit.reference reference) (numbered_from 1 edits)

-- Read from the newest edit back: some edit changed the day, on the stations in force before it.
unfoldable pub was_changed_back : List Edit → SiteNumber → ℤ → Bool
was_changed_back [] site day = false
was_changed_back (edit ∷ older) site day = changes (stations_of (reverse older)) edit site day || was_changed_back older site day

abbrev pub was_changed : List Edit → SiteNumber → ℤ → Bool
was_changed edits site day = was_changed_back (reverse edits) site day

-- the days of a site that were ever changed, in order
abbrev pub days_ever_changed : List Edit → SiteNumber → List ℤ
days_ever_changed edits site = filter (was_changed edits site) calendar

-- the cells of a station are the days from the first to the last that was ever changed
abbrev pub cells_of : List Edit → SiteNumber → ℕ
cells_of edits site = days_of (with_days None (days_ever_changed edits site))

-- the cells of all stations
abbrev pub cell_count : List Edit → ℕ
cell_count edits = sum_by (λ (s : StationState). cells_of edits s.site) (stations_of edits)

-- the bytes of a journal of these records in a format: the header and the closed gate, and of each an open gate, a length and a payload
abbrev pub journal_size : Format → List Record → ℕ
journal_size format pieces = header_length + 1 + sum_by (λ piece. before_payload + length (payload format piece)) pieces
