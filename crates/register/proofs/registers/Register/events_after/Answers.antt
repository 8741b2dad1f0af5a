-- As many days would be pending as wait now and as are newly pending.
use Rattle.std.specs.Prelude.{◌+◌, ◌<◌, ◌^◌, length, count_by, is_none}
use Rattle.std.proofs.Common.{rules, ap, ◌∙◌}
use Rattle.edits.specs.declared.content.Edit.{Edit}
use Rattle.recompute.specs.Cells.{awaited_in, waiting}
use Rattle.register.specs.Registered.{Registered}
use Rattle.register.proofs.RoomLemmas.{stands, owed_fits, events_with, checked_counts, checked_most}
use Rattle.register.proofs.registers.Register.events_after.Goals as goal

pub overflow_add-settled : goal.overflow_add-settled
overflow_add-settled c =
    let s = stands _ c.args.self.now c.self.inside.pieces.items c.self.inside.events c.self.inside.journal_bytes c.self.view_is c.self.invariant
    c.pending_days_stand_by_site.ensures.rising c.stations_keep_to_their_ranges.ensures in
    let pending = c.pending.ensures ∙ ap (λ (r : Registered). length (waiting r.cells)) c.self.view_is in
    let few : c.self.inside.events + c.pending.result < 2 ^ 64 = owed_fits c.args.self.now c.self.inside.pieces.items c.self.inside.events c.self.inside.journal_bytes s c.pending.result pending in
    search rules

pub returns-clause-counted : goal.returns-clause-counted
returns-clause-counted c =
    let s = stands _ c.args.self.now c.self.inside.pieces.items c.self.inside.events c.self.inside.journal_bytes c.self.view_is c.self.invariant
    c.pending_days_stand_by_site.ensures.rising c.stations_keep_to_their_ranges.ensures in
    let pending = c.pending.ensures ∙ ap (λ (r : Registered). length (waiting r.cells)) c.self.view_is in
    let newly = c.newly_pending-added.ensures.count
    ∙ ap (λ (e : Edit). count_by (λ d. is_none (awaited_in c.args.self.now.cells e.site d)) c.args.days.now) c.edit.ensures in
    checked_counts c.checked_add.result _ _ c.checked_add.ensures
    (events_with c.args.self.now c.self.inside.pieces.items c.self.inside.events c.self.inside.journal_bytes s c.args.piece.now c.args.days.now c.pending.result
    c.newly_pending-added.result c.requires pending newly)

pub returns-clause-most : goal.returns-clause-most
returns-clause-most c =
    let s = stands _ c.args.self.now c.self.inside.pieces.items c.self.inside.events c.self.inside.journal_bytes c.self.view_is c.self.invariant
    c.pending_days_stand_by_site.ensures.rising c.stations_keep_to_their_ranges.ensures in
    let pending = c.pending.ensures ∙ ap (λ (r : Registered). length (waiting r.cells)) c.self.view_is in
    let newly = c.newly_pending-added.ensures.count
    ∙ ap (λ (e : Edit). count_by (λ d. is_none (awaited_in c.args.self.now.cells e.site d)) c.args.days.now) c.edit.ensures in
    checked_most c.checked_add.result _ _ c.checked_add.ensures
    (events_with c.args.self.now c.self.inside.pieces.items c.self.inside.events c.self.inside.journal_bytes s c.args.piece.now c.args.days.now c.pending.result
    c.newly_pending-added.result c.requires pending newly)
