-- For what there would be room, with one edit more.
use Rattle.std.specs.Prelude.{◌≡◌, ℕ, ◌+◌, ◌<◌, ◌≤◌, ◌^◌, not, cond, List, [], ◌∷◌, ◌++◌, length, count_by, Option, Some, None, is_none, SomeIff, IfSome, ℤ}
use Rattle.std.proofs.Common.{arith, ap, subst, ◌∙◌}
use Rattle.std.proofs.lemmas.List.Elements.{All-filter, All-weaker}
use Rattle.day_cells.specs.KeptDays.{KeptDays}
use Rattle.day_cells.specs.Sites.{station_rank}
use Rattle.day_cells.specs.Spans.{with_days, days_of}
use Rattle.day_cells.specs.declared.spans.Span.{Span}
use Rattle.edits.specs.declared.content.Edit.{Edit}
use Rattle.fixed_units.specs.Calendar.{calendar}
use Rattle.fixed_units.specs.Quantities.{IsDay}
use Rattle.history.specs.Accepted.{accepted, edits_of, stations_at, days_ever_changed, cells_of, cell_count, journal_size}
use Rattle.history.specs.Awaited.{awaited, pending_days}
use Rattle.history.specs.Events.{Event, Accepted}
use Rattle.history.specs.Verdicts.{record_of, with_edit, with_record}
use Rattle.history.proofs.CountLemmas.{sums_same}
use Rattle.history.proofs.EventLemmas.{accepted_accepted, edits_accepted}
use Rattle.history.proofs.PendingLemmas.{calendar_days, pending_more, cells_more}
use Rattle.office_inputs.specs.Changes.{keeps_day, changed_days}
use Rattle.office_inputs.specs.Kept.{AreStations}
use Rattle.office_inputs.specs.Stations.{place_of}
use Rattle.recompute.specs.Cells.{awaited_in, span_in, waiting, cell_count_after}
use Rattle.records.specs.Frames.{before_payload}
use Rattle.records.specs.Payloads.{payload}
use Rattle.records.specs.Sheets.{Record}
use Rattle.records.specs.declared.formats.Format.{Format}
use Rattle.register.specs.Keeping.{Keeps, Tells}
use Rattle.register.specs.Registered.{Registered}
use Rattle.register.proofs.KeepsLemmas.{journal_more}
use Rattle.register.proofs.RiseLemmas.{rising_stations}
use Rattle.register.proofs.WaitingLemmas.{waiting_count, cells_counted}
use Rattle.rising.specs.Lists.{IsRising}

-- the journal is longer by the record
pub journal_with : (format : Format) (events : List Event) (piece : Record)
    → journal_size format (accepted (events ++ Accepted piece ∷ [])) ≡ journal_size format (accepted events) + (before_payload + length (payload format piece))
journal_with format events piece = ap (journal_size format) (accepted_accepted events piece) ∙ journal_more format (accepted events) piece

-- a checked sum
pub checked_counts : (o : Option ℕ) (n m : ℕ) → SomeIff o (n < 2 ^ 64) n → n ≡ m → IfSome o (λ k. k ≡ m)
checked_counts None n m h e = tt
checked_counts (Some k) n m h e = h.1 ∙ e

pub checked_most : (o : Option ℕ) (n m : ℕ) → SomeIff o (n < 2 ^ 64) n → n ≡ m → o ≡ None → 2 ^ 64 ≤ m
checked_most None n m h e z = omega arith
checked_most (Some k) n m h e z = absurd (cc)

-- what the cells tell of the days and of the cells that there would be
module _ (events : List Event) (cells : List KeptDays) (told : Tells events cells) (rising : IsRising station_rank cells)
    (stations_rise : IsRising place_of (stations_at events)) (piece : Record) where
  newly_told : count_by (λ d. is_none (awaited_in cells piece.edit.site d)) (changed_days (stations_at events) piece.edit)
      ≡ count_by (λ d. is_none (awaited events piece.edit.site d)) (changed_days (stations_at events) piece.edit)
  newly_told =
      let site = piece.edit.site in
      sums_same (λ d. cond (is_none (awaited events site d)) 1 0) (λ d. cond (is_none (awaited_in cells site d)) 1 0) (changed_days (stations_at events) piece.edit)
      (All-weaker IsDay (λ d. cond (is_none (awaited_in cells site d)) 1 0 ≡ cond (is_none (awaited events site d)) 1 0)
      (λ d h. ap (λ (o : Option ℕ). cond {A = ℕ} (is_none o) 1 0) (told.awaited_told site d h)) (changed_days (stations_at events) piece.edit)
      (All-filter (λ d. not (keeps_day (stations_at events) piece.edit d)) IsDay calendar calendar_days))

  pub pending_with : length (pending_days (events ++ Accepted piece ∷ []))
      ≡ length (waiting cells) + count_by (λ d. is_none (awaited_in cells piece.edit.site d)) (changed_days (stations_at events) piece.edit)
  pending_with =
      let more = pending_more events piece stations_rise in
      let count = waiting_count events cells told rising stations_rise in
      let newly = newly_told in
      omega (arith, more, count, newly)

  pub cells_with : cell_count_after cells piece.edit.site (changed_days (stations_at events) piece.edit)
      ≡ cell_count (edits_of (events ++ Accepted piece ∷ []))
  cells_with =
      let site = piece.edit.site in
      let days = changed_days (stations_at events) piece.edit in
      let edits = edits_of events in
      let more = cells_more edits piece.edit stations_rise in
      let counted = cells_counted events cells told rising stations_rise in
      let part : days_of (span_in cells site) ≡ cells_of edits site = ap days_of (told.span_told site) in
      let whole : days_of (with_days (span_in cells site) days) ≡ days_of (with_days (with_days None (days_ever_changed edits site)) days) =
      ap (λ (s : Option Span). days_of (with_days s days)) (told.span_told site) in
      let turn : cell_count (edits_of (events ++ Accepted piece ∷ [])) ≡ cell_count (edits ++ piece.edit ∷ []) = ap cell_count (edits_accepted events piece) in
      omega (arith, more, counted, part, whole, turn)

-- what is known of what is kept: it tells what is read off the history, and its stations rise by site
pub record Stands (r : Registered) (pieces : List Record) (count bytes : ℕ) : Type 0 where
  pub kept : Keeps r pieces count bytes
  pub rising : IsRising station_rank r.cells
  pub stations_rise : IsRising place_of (stations_at r.history.events)

pub stands : (v r : Registered) (pieces : List Record) (count bytes : ℕ) → v ≡ r → Keeps v pieces count bytes → IsRising station_rank v.cells → AreStations v.inputs.kept
    → Stands r pieces count bytes
stands v r pieces count bytes e kept rising stations =
    subst (λ (x : Registered). Stands x pieces count bytes) e
    (record { kept = kept; rising = rising; stations_rise = rising_stations v.inputs.kept (stations_at v.history.events) stations kept.stations })

module _ (r : Registered) (pieces : List Record) (count bytes : ℕ) (s : Stands r pieces count bytes) where
  -- the publications that are owed can be counted
  pub owed_fits : (pending : ℕ) → pending ≡ length (waiting r.cells) → count + pending < 2 ^ 64
  owed_fits pending p =
      let waits = waiting_count r.history.events r.cells s.kept.cells_tell s.rising s.stations_rise in
      let counted = s.kept.events_are in
      let most = s.kept.fits in
      omega (arith, waits, counted, most, p)

  pub events_with : (piece : Record) (days : List ℤ) (pending newly : ℕ) → days ≡ changed_days (stations_at r.history.events) piece.edit
      → pending ≡ length (waiting r.cells) → newly ≡ count_by (λ d. is_none (awaited_in r.cells piece.edit.site d)) days
      → count + pending + (1 + newly) ≡ length r.history.events + 1 + length (pending_days (with_record r.history piece))
  events_with piece days pending newly d p n =
      let more = pending_with r.history.events r.cells s.kept.cells_tell s.rising s.stations_rise piece in
      let new = n ∙ ap (count_by (λ d. is_none (awaited_in r.cells piece.edit.site d))) d in
      let counted = s.kept.events_are in
      omega (arith, more, new, counted, p)

  pub cells_count : (edit : Edit) (days : List ℤ) → days ≡ changed_days (stations_at r.history.events) edit
      → cell_count_after r.cells edit.site days ≡ cell_count (edits_of (with_edit r.history edit))
  cells_count edit days d =
      ap (cell_count_after r.cells edit.site) d ∙ cells_with r.history.events r.cells s.kept.cells_tell s.rising s.stations_rise (record_of r.history edit)

  pub pending_counted : (pending : ℕ) → pending ≡ length (waiting r.cells) → pending ≡ length (pending_days r.history.events)
  pending_counted pending p = p ∙ waiting_count r.history.events r.cells s.kept.cells_tell s.rising s.stations_rise
