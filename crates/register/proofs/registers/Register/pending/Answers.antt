-- As many days wait as are pending.
use Rattle.std.specs.Prelude.{length}
use Rattle.std.proofs.Common.{ap, ◌∙◌}
use Rattle.recompute.specs.Cells.{waiting}
use Rattle.register.specs.Registered.{Registered}
use Rattle.register.proofs.RoomLemmas.{stands, pending_counted}
use Rattle.register.proofs.registers.Register.pending.Goals as goal

pub returns : goal.returns
returns c =
    let s = stands _ c.args.self.now c.self.inside.pieces.items c.self.inside.events c.self.inside.journal_bytes c.self.view_is c.self.invariant
    c.pending_days_stand_by_site.ensures.rising c.stations_keep_to_their_ranges.ensures in
    pending_counted c.args.self.now c.self.inside.pieces.items c.self.inside.events c.self.inside.journal_bytes s c.pending.result
    (c.pending.ensures ∙ ap (λ (r : Registered). length (waiting r.cells)) c.self.view_is)
