-- Each part made its room, and every place that was kept for a reference still is.
use Rattle.std.proofs.Common.{List, ◌-◌, length, ap, sym, subst, ◌∙◌}
use Rattle.std.specs.Vec.{vec_capacity, vec_len}
use Rattle.std.proofs.lemmas.Result.{on_ok_weaker}
use Rattle.history.specs.Accepted.{edits_of, stations_at}
use Rattle.records.specs.Sheets.{Record}
use Rattle.office_inputs.specs.Changes.{changed_days}
use Rattle.register.specs.Registered.{Registered}
use Rattle.register.specs.Keeping.{Keeps}
use Rattle.register.specs.Registered.{registered}
use Rattle.register.proofs.KeepsLemmas.{keeps_prepared, places_put}
use Rattle.register.proofs.ReadyLemmas.{ready_made}
use Rattle.register.proofs.registers.Register.prepare.Goals as goal

pub returns-clause-room : goal.returns-clause-room
returns-clause-room c =
    on_ok_weaker c.put.result (λ placed. ready_made c.self.inside.opened c.self.inside.format c.prepare_at.new.self c.prepare.new.self c.put.new.self c.prepare-2.new.self c.self.inside.past
    (vec_capacity c.reserve.new.self) (vec_len c.reserve.new.self) c.len-number.result c.self.inside.pieces.items c.args.edit.now c.args.days.now c.as_slice.result.now
    c.in_ok-prepare_at.ensures.room
    (c.requires.days ∙ ap (λ (r : Registered). changed_days (stations_at r.history.events) c.args.edit.now) (sym c.self.view_is))
    c.in_ok-prepare.ensures.room c.in_ok-prepare-2.ensures.room c.self.invariant.pieces_are
    (c.len-number.ensures ∙ c.reserve.new.self.ok.0 ∙ ap length c.reserve.ensures.items) c.as_slice.ensures.codes placed c.in_ok-reserve.ensures.ok) c.put.ensures.placed

pub invariant_of-self-2 : goal.invariant_of-self-2
invariant_of-self-2 c =
    subst (λ (pieces : List Record). Keeps (registered c.self.inside.opened c.self.inside.format c.prepare_at.new.self c.prepare.new.self c.put.new.self c.prepare-2.new.self (vec_capacity c.reserve.new.self - vec_len c.reserve.new.self) c.self.inside.past) pieces c.self.inside.events c.self.inside.journal_bytes)
    (sym c.reserve.ensures.items)
    (keeps_prepared c.self.inside.opened c.self.inside.format c.self.inside.inputs c.self.inside.cells c.self.inside.references c.self.inside.statuses
    (vec_capacity c.self.inside.pieces - vec_len c.self.inside.pieces) c.self.inside.past c.self.inside.pieces.items c.self.inside.events c.self.inside.journal_bytes
    c.self.invariant c.prepare_at.new.self c.prepare.new.self c.put.new.self c.prepare-2.new.self (vec_capacity c.reserve.new.self - vec_len c.reserve.new.self)
    c.prepare_at.ensures.stations c.prepare_at.ensures.limits c.prepare.ensures.same
    (places_put (edits_of c.self.inside.past) c.self.inside.references c.put.new.self c.put.result c.put.ensures.others c.put.ensures.err c.self.invariant.places) c.prepare-2.ensures.standings)
