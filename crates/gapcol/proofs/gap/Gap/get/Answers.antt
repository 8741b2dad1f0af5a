use Rattle.std.proofs.Common.{[], ◌∷◌, length, get_or, Some, sym, ap, ◌∙◌, arith}
use Rattle.gapcol.proofs.Lists.{same_values}
use Rattle.gapcol.proofs.Gaps.{alone}
use Rattle.gapcol.proofs.gap.Gap.get.Goals as goal

pub slice-one-requires : goal.slice-one-requires
slice-one-requires g c =
    let a = c.args.self.now in let h = c.requires.0 in let is = alone a h c.args.index c.place-place.result c.requires.1 c.place-place.ensures in
    (sym h.block.0, (is.0, (is.1.0 ∷ [], is.1.2)))

pub bounds-one-0 : goal.bounds-one-0
bounds-one-0 g c =
    let a = c.args.self.now in let h = c.requires.0 in let is = alone a h c.args.index c.place-place.result c.requires.1 c.place-place.ensures in
    let one = same_values c.slice-one.result.now (is.1.0 ∷ []) (sym c.slice-one.ensures ∙ is.1.2) in omega (arith, ap length one)

pub returns : goal.returns
returns g c =
    let a = c.args.self.now in let h = c.requires.0 in let is = alone a h c.args.index c.place-place.result c.requires.1 c.place-place.ensures in
    let one = same_values c.slice-one.result.now (is.1.0 ∷ []) (sym c.slice-one.ensures ∙ is.1.2) in
    is.1.1 ∙ ap Some (sym (c.index-one-0.is ∙ ap (λ l. get_or l 0 c.index-one-0.result) one))
