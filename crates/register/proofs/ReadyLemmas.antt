-- For which edit there is room.
use Rattle.std.specs.Prelude.{◌≡◌, ℕ, ◌+◌, ◌-◌, ◌≤◌, List, length, map, ℤ}
use Rattle.std.proofs.Common.{arith, ap, sym, subst, ◌∙◌}
use Rattle.std.proofs.lemmas.List.{length-map}
use Rattle.approval.specs.Kept as kept_statuses
use Rattle.approval.specs.Kept.{KeptSite}
use Rattle.day_cells.specs.KeptDays.{KeptDays}
use Rattle.edits.specs.declared.content.Edit.{Edit}
use Rattle.history.specs.Accepted.{accepted, edit_of, edits_of, stations_at}
use Rattle.history.specs.Events.{Event}
use Rattle.office_inputs.specs.Changes.{changed_days}
use Rattle.office_inputs.specs.Kept.{InForce}
use Rattle.office_inputs.specs.Kept as kept_inputs
use Rattle.office_inputs.specs.Stations.{stations_of}
use Rattle.recompute.specs.Cells as kept_cells
use Rattle.records.specs.Sheets.{Record}
use Rattle.records.specs.declared.formats.Format.{Format}
use Rattle.register.specs.References.{Placed, IsPlacedFor}
use Rattle.register.specs.Registered.{registered, IsReady}

module _ (opened : ℕ) (format : Format) (inputs : InForce) (cells : List KeptDays) (references : List Placed) (statuses : List KeptSite) (events : List Event) where
  -- events that accept no edit leave the room for an edit
  pub ready_kept : (spare : ℕ) (more : List Event) (edit : Edit) → accepted more ≡ accepted events
      → IsReady (registered opened format inputs cells references statuses spare events) edit → IsReady (registered opened format inputs cells references statuses spare more) edit
  ready_kept spare more edit same h = record {
    inputs = h.inputs;
    cells = subst (λ (ps : List Record). kept_cells.HasRoom cells edit.site (changed_days (stations_of (map edit_of ps)) edit)) (sym same) h.cells;
    reference = subst (λ (ps : List Record). IsPlacedFor references edit.reference (length (map edit_of ps))) (sym same) h.reference;
    statuses = h.statuses;
    edits = h.edits;
  }

  -- room was made in each part
  pub ready_made : (capacity used place : ℕ) (pieces : List Record) (edit : Edit) (days : List ℤ) (told : List ℕ) → kept_inputs.HasRoom inputs edit
      → days ≡ changed_days (stations_at events) edit → kept_cells.HasRoom cells edit.site days → kept_statuses.HasRoom statuses edit
      → pieces ≡ accepted events → place ≡ length pieces
      → told ≡ edit.reference → IsPlacedFor references told place
      → used + 1 ≤ capacity → IsReady (registered opened format inputs cells references statuses (capacity - used) events) edit
  ready_made capacity used place pieces edit days told i d c s p n same r room =
      let few : place ≡ length (edits_of events) = n ∙ ap (λ (ps : List Record). length ps) p ∙ sym (length-map (accepted events) edit_of) in
      record {
        inputs = i;
        cells = subst (λ (l : List ℤ). kept_cells.HasRoom cells edit.site l) d c;
        reference =
            subst (λ k. IsPlacedFor references edit.reference k) few
            (subst (λ (t : List ℕ). IsPlacedFor references t place) same r);
        statuses = s;
        edits = omega arith;
      }
