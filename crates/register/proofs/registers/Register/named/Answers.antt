-- The accepted edit that a reference names stands in the place where its record has it.
use Rattle.std.specs.Prelude.{◌≡◌, slice_get, Some, None}
use Rattle.std.proofs.Common.{ap, sym, ◌∙◌}
use Rattle.std.proofs.lemmas.Option.{slice_get_past, slice_get-get_or}
use Rattle.register.proofs.NamedPlaceLemmas.{none_stands, own_stands, stands_there, has_own}
use Rattle.register.proofs.registers.Register.named.Goals as goal

pub returns-in_err-place : goal.returns-in_err-place
returns-in_err-place c =
    rw (c.from_residual.ensures, ← c.self.view_is)
    (sym (none_stands c.self.inside.past c.self.inside.references c.as_slice.result.now c.args.reference.now
    (c.as_slice.ensures.value ∙ c.self.invariant.pieces_are) (c.place.ensures.absent c.in_err-place.was) c.self.invariant.places))

pub returns-in_err-piece : goal.returns-in_err-piece
returns-in_err-piece c =
    let place = c.in_ok-place.place in
    let pieces = c.as_slice.ensures.value ∙ sym c.deref.ensures.value in
    let none : slice_get c.as_slice.result.now place ≡ None =
    ap (λ l. slice_get l place) pieces ∙ slice_get_past c.deref.result.now place c.in_err-piece.ensures.lookup.3 in
    absurd (stands_there c.as_slice.result.now c.args.reference.now place c.in_ok-place.ensures.found none)

pub returns : goal.returns
returns c =
    let place = c.in_ok-place.place in
    let piece = c.in_ok-piece.piece.now in
    let lookup = c.in_ok-piece.ensures.lookup.3 in
    let here : slice_get c.deref.result.now place ≡ Some piece =
    slice_get-get_or c.deref.result.now place piece lookup.0 ∙ ap Some (sym (lookup.1 piece)) in
    let its = has_own c.as_slice.result.now c.args.reference.now place piece c.in_ok-place.ensures.found
    (ap (λ l. slice_get l place) (c.as_slice.ensures.value ∙ sym c.deref.ensures.value) ∙ here) in
    rw (← c.self.view_is)
    (own_stands (record { opened = c.self.inside.opened; limits = c.self.inside.inputs.limits; format = c.self.inside.format; events = c.self.inside.past }) c.self.invariant.legal
    c.args.reference.now place piece (ap (λ l. slice_get l place) (sym (c.deref.ensures.value ∙ c.self.invariant.pieces_are)) ∙ here) its)
