-- The changed days rise as the calendar does, and each part took the edit in.
use Rattle.std.proofs.Common.{arith, ◌+◌, ◌-◌, ◌∷◌, ◌++◌, [], ap, subst, ◌∙◌}
use Rattle.std.specs.Vec.{vec_capacity, vec_len}
use Rattle.depend.proofs.ReachLemmas.{changed_rise}
use Rattle.edits.specs.declared.content.Edit.{Edit}
use Rattle.history.specs.Accepted.{stations_at}
use Rattle.history.specs.Events.{Event}
use Rattle.office_inputs.specs.Kept.{in_force}
use Rattle.office_inputs.specs.Stations.{stations_after}
use Rattle.recompute.specs.Cells.{Marks}
use Rattle.register.proofs.StandsLemmas.{Stands}
use Rattle.register.proofs.TakenLemmas.{keeps_taken}
use Rattle.register.proofs.registers.Register.take_in.Goals as goal

pub mark-requires-clause-rising : goal.mark-requires-clause-rising
mark-requires-clause-rising c = changed_rise (stations_at c.args.self.now.history.events) c.args.piece.edit c.args.days.now c.requires.days

pub apply-requires-clause-rising : goal.apply-requires-clause-rising
apply-requires-clause-rising c = changed_rise (stations_at c.args.self.now.history.events) c.args.piece.edit c.args.days.now c.requires.days

pub invariant_of-self : goal.invariant_of-self
invariant_of-self c =
    keeps_taken c.self.inside.opened c.self.inside.format c.self.inside.inputs c.self.inside.cells c.self.inside.references c.self.inside.statuses
    (vec_capacity c.self.inside.pieces - vec_len c.self.inside.pieces) c.self.inside.past c.self.inside.pieces.items c.self.inside.events c.self.inside.journal_bytes
    c.self.invariant c.args.self.now c.self.view_is c.args.opened c.args.piece c.args.days.now c.args.journal_bytes
    (record {
      legal = c.requires.legal;
      days_are = c.requires.days;
      room = c.requires.room;
      counted = c.requires.events;
      size_is = c.requires.bytes;
      size_fits = omega arith;
    })
    c.apply_at.new.self c.mark.new.self c.apply.new.self (vec_capacity c.push_reserved.new.self - vec_len c.push_reserved.new.self) (c.len.result + 1) c.record.new.self
    c.push_reserved.new.self.items (c.apply_at.ensures.stations ∙ ap (λ (e : Edit). stations_after (in_force c.self.inside.inputs) e) c.edit-edit.ensures) c.apply_at.ensures.limits (ap (λ k. k + 1) (c.len.ensures ∙ c.self.inside.pieces.ok.0))
    (subst (λ (e : Edit). Marks c.self.inside.cells c.mark.new.self e.site c.args.days.now (c.len.result + 1)) c.edit-edit.ensures c.mark.ensures.marks)
    (subst (λ (e : Edit). Stands c.self.inside.statuses c.apply.new.self (c.len.result + 1) e c.args.days.now) c.edit-edit.ensures c.apply.ensures)
    (c.record.ensures ∙ ap (λ (e : Event). c.self.inside.past ++ e ∷ []) c.accepted-accepted.ensures)
    c.push_reserved.ensures.items
