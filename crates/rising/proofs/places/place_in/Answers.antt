-- The element at the key is written over.
use Rattle.std.proofs.Common.{ap, sym, ◌∙◌}
use Rattle.std.specs.Prelude.{ℤ}
use Rattle.rising.specs.Lists.{before, after}
use Rattle.rising.proofs.Placing.{write_is_put}
use Rattle.rising.proofs.places.place_in.Goals as goal

pub returns-then-stands_in-clause-written : goal.returns-then-stands_in-clause-written
returns-then-stands_in-clause-written g c element e =
    let place = g.T.Keyed.place in
    let n = ap (λ (n : ℤ). before place n c.args.list.now) (sym e) in
    let m = ap (λ (n : ℤ). after place n c.args.list.now) (sym e) in
    write_is_put place element c.args.list.now c.count_before-place.result (c.stands_in.ensures.within c.if-stands_in.true)
    (c.count_before-place.ensures.front ∙ n) (c.stands_in.ensures.here c.if-stands_in.true ∙ m)
