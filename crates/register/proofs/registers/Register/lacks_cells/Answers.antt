-- The cells are counted as the history counts them.
use Rattle.std.specs.Prelude.{nat_lt}
use Rattle.std.proofs.Common.{ap, ◌∙◌}
use Rattle.office_inputs.specs.declared.limits.Limits.{Limits}
use Rattle.recompute.specs.Cells.{cell_count_after}
use Rattle.register.specs.Registered.{Registered}
use Rattle.register.proofs.RoomLemmas.{stands, cells_count}
use Rattle.register.proofs.registers.Register.lacks_cells.Goals as goal

pub returns : goal.returns
returns c =
    let s = stands _ c.args.self.now c.self.inside.pieces.items c.self.inside.events c.self.inside.journal_bytes c.self.view_is c.self.invariant
    c.pending_days_stand_by_site.ensures.rising c.stations_keep_to_their_ranges.ensures in
    let limits = c.limits.ensures ∙ ap (λ (r : Registered). r.history.limits) c.self.view_is in
    let cells = c.cells_after.ensures ∙ ap (λ (r : Registered). cell_count_after r.cells c.args.edit.now.site c.args.days.now) c.self.view_is
    ∙ cells_count c.args.self.now c.self.inside.pieces.items c.self.inside.events c.self.inside.journal_bytes s c.args.edit.now c.args.days.now c.requires in
    ap (λ (l : Limits). nat_lt l.cells c.cells_after.result) limits ∙ ap (nat_lt c.args.self.now.history.limits.cells) cells
