use Rattle.std.specs.Prelude.{◌+◌, ◌%◌, ◌^◌}
use Rattle.std.proofs.Common.{arith, ap, sym, ◌∙◌}
use Rattle.register.specs.References.{place_at}
use Rattle.register.proofs.PlaceLemmas.{below_next, another, before_none, KeepsAnother}
use Rattle.register.proofs.references.References.place.Goals as goal

pub returns-in_err-place-clause-absent : goal.returns-in_err-place-clause-absent
returns-in_err-place-clause-absent c = λ none place h.
    let key = ap (λ k. place_at c.args.self.now ((k + c.loop-turn.turn) % 2 ^ 32)) (sym c.hash_of-hash.ensures) in
    another c.args.self.now c.args.pieces.now c.args.reference.now c.loop-turn.turn c.loop-turn.invariant place h
    (before_none c.args.self.now c.args.pieces.now c.args.reference.now c.loop-turn.turn (key ∙ sym c.at.ensures ∙ c.in_err-place.was) place h)

pub loop-turn-preserved : goal.loop-turn-preserved
loop-turn-preserved c =
    let key = ap (λ k. place_at c.args.self.now ((k + c.loop-turn.turn) % 2 ^ 32)) (sym c.hash_of-hash.ensures) in
    below_next (KeepsAnother c.args.self.now c.args.pieces.now c.args.reference.now) c.loop-turn.turn c.loop-turn.invariant
    (c.in_ok-place.place, key ∙ sym c.at.ensures ∙ c.in_ok-place.was, sym c.has_reference.ensures ∙ c.if-has_reference.false)

pub returns-clause-absent : goal.returns-clause-absent
returns-clause-absent c = λ none place h.
    let range = h.in_range in
    another c.args.self.now c.args.pieces.now c.args.reference.now c.loop-turn.turn c.loop-turn.invariant place h (omega arith)
