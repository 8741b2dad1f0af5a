use Rattle.std.specs.Prelude.{◌≡◌, ◌≤◌, suc, length, List, option_map, Option, Some, slice_get}
use Rattle.std.proofs.Common.{ap, sym, subst, ◌∙◌, arith}
use Rattle.std.proofs.lemmas.Option.{slice_get-get_or}
use Rattle.devices.specs.declared.loopback.ClosedEnds.{ClosedEnds}
use Rattle.devices.specs.Loopback.{counts_told}
use Rattle.devices.proofs.Connections.{nothing_under, stands_under, by_value}
use Rattle.devices.proofs.loopback.LoopbackDoors.closed.Goals as goal

pub returns-in_err-get : goal.returns-in_err-get
returns-in_err-get c =
    let place = c.in_ok-place.place in
    let number : suc place ≡ c.args.number = grind arith in
    let past = subst (λ (l : List (Option ClosedEnds)). length l ≤ place) c.deref.ensures.value c.in_err-get.ensures.lookup.3 in
    rw (c.from_residual-in_err-get.ensures)
    (nothing_under (λ (kept : Option ClosedEnds). option_map counts_told kept) c.args.self.now.places.items c.args.number place number past)

pub returns : goal.returns
returns c =
    let place = c.in_ok-place.place in
    let number : suc place ≡ c.args.number = grind arith in
    let kept = c.in_ok-get.field-0.now in
    let lookup = c.in_ok-get.ensures.lookup.3 in
    let here : slice_get c.deref.result.now place ≡ Some kept =
    slice_get-get_or c.deref.result.now place kept lookup.0 ∙ ap Some (sym (lookup.1 kept)) in
    by_value counts_told kept _
    (stands_under (λ (kept : Option ClosedEnds). option_map counts_told kept) c.args.self.now.places.items c.args.number place kept number
    (ap (λ (l : List (Option ClosedEnds)). slice_get l place) (sym c.deref.ensures.value) ∙ here))
