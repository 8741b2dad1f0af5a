-- The line keeps to the values of its ends, so it is a quantity.
use Rattle.std.proofs.Common.{◌≡◌, refl, sym, subst, pos, neg_ℤ, to_z, of_z, arith}
use Rattle.std.specs.Int.{w64, w128}
use Rattle.std.proofs.lemmas.Int.{ints}
use Rattle.fixed_units.specs.Quantities.{IsWithin, most_millionths}
use Rattle.fixed_units.proofs.LineLemmas.{line-within}
use Rattle.fixed_units.proofs.lines.line_at.Goals as goal

pub sum-requires : goal.sum-requires
sum-requires c from to =
    let same : to_z w128 (of_z w128 c.risen.result) ≡ c.risen.result = omega (arith, ints) in
    let here : to_z w64 (of_z w64 c.args.x) ≡ c.args.x = omega (arith, ints) in
    rw (same, c.risen.ensures, here) (line-within c.args.from c.args.to c.args.x (neg_ℤ (pos most_millionths)) (pos most_millionths) c.requires.rising c.requires.first c.requires.last from to)

pub returns-clause-value : goal.returns-clause-value
returns-clause-value c =
    let same : to_z w128 (of_z w128 c.risen.result) ≡ c.risen.result = omega (arith, ints) in
    let here : to_z w64 (of_z w64 c.args.x) ≡ c.args.x = omega (arith, ints) in
    rw (c.sum.ensures, same, c.risen.ensures, here) refl

pub returns-clause-between : goal.returns-clause-between
returns-clause-between c least greatest from to =
    subst (IsWithin least greatest) (sym (returns-clause-value c)) (line-within c.args.from c.args.to c.args.x least greatest c.requires.rising c.requires.first c.requires.last from to)
