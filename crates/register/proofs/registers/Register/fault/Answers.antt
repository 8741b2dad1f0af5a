-- There is room for a fault where an edit could be accepted, and it leaves all but the events as it is.
use Rattle.std.proofs.Common.{arith, ◌-◌, ◌∷◌, ◌++◌, [], ap, ◌∙◌}
use Rattle.std.specs.Vec.{vec_capacity, vec_len}
use Rattle.history.specs.Events.{Event}
use Rattle.register.proofs.FaultLemmas.{fault_counted, keeps_fault, ready_after_fault}
use Rattle.register.proofs.registers.Register.fault.Goals as goal

pub overflow_add-self : goal.overflow_add-self
overflow_add-self c =
    let counted = fault_counted c.self.inside.opened c.self.inside.format c.self.inside.inputs c.self.inside.cells c.self.inside.references c.self.inside.statuses
    (vec_capacity c.self.inside.pieces - vec_len c.self.inside.pieces) c.self.inside.past c.self.inside.pieces.items c.self.inside.events c.self.inside.journal_bytes
    c.self.invariant c.args.self.now c.self.view_is c.args.edit.now c.requires.verdict c.stations_keep_to_their_ranges.ensures c.limits.result c.limits.ensures (omega arith)
    c.args.doubt.now c.requires.doubt in
    omega (arith, counted)

pub invariant_of-self : goal.invariant_of-self
invariant_of-self c =
    keeps_fault c.self.inside.opened c.self.inside.format c.self.inside.inputs c.self.inside.cells c.self.inside.references c.self.inside.statuses
    (vec_capacity c.self.inside.pieces - vec_len c.self.inside.pieces) c.self.inside.past c.self.inside.pieces.items c.self.inside.events c.self.inside.journal_bytes
    c.self.invariant c.args.self.now c.self.view_is c.args.edit.now c.requires.verdict c.stations_keep_to_their_ranges.ensures c.limits.result c.limits.ensures (omega arith)
    c.args.doubt.now c.requires.doubt c.record-2.new.self (c.record-2.ensures ∙ ap (λ (e : Event). c.self.inside.past ++ e ∷ []) c.faulted.ensures)

pub returns-clause-room : goal.returns-clause-room
returns-clause-room c =
    ready_after_fault c.self.inside.opened c.self.inside.format c.self.inside.inputs c.self.inside.cells c.self.inside.references c.self.inside.statuses
    (vec_capacity c.self.inside.pieces - vec_len c.self.inside.pieces) c.self.inside.past c.self.inside.pieces.items c.self.inside.events c.self.inside.journal_bytes
    c.self.invariant c.args.self.now c.self.view_is c.args.edit.now c.requires.verdict c.stations_keep_to_their_ranges.ensures c.limits.result c.limits.ensures (omega arith)
    c.args.doubt.now c.requires.doubt c.record-2.new.self (c.record-2.ensures ∙ ap (λ (e : Event). c.self.inside.past ++ e ∷ []) c.faulted.ensures)
