-- The line meets the points that it is drawn through.
use Rattle.std.proofs.Common.{◌≡◌, ◌∙◌, sym, arith}
use Rattle.std.proofs.lemmas.Int.{ints}
use Rattle.curves.proofs.CaseLemmas.{start_of, end_of, told_le}
use Rattle.curves.proofs.curve.value_across.Goals as goal

pub returns-then-le-clause-between : goal.returns-then-le-clause-between
returns-then-le-clause-between c = λ k l.
    let up_to = told_le c.args.stage c.args.low.now.0 (sym c.le.ensures ∙ c.if-le.true) in
    let here : c.args.stage ≡ c.args.low.now.0 = omega (arith, ints, k, up_to) in
    sym (start_of c.args.low.now c.args.high.now c.args.stage c.requires here)

pub returns-then-le-2-clause-between : goal.returns-then-le-2-clause-between
returns-then-le-2-clause-between c = λ k l.
    let up_to = told_le c.args.high.now.0 c.args.stage (sym c.le-2.ensures ∙ c.if-le-2.true) in
    let here : c.args.stage ≡ c.args.high.now.0 = omega (arith, ints, l, up_to) in
    sym (end_of c.args.low.now c.args.high.now c.args.stage c.requires here)
