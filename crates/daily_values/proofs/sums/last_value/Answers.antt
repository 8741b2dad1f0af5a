-- The line meets the value at its last end.
use Rattle.std.specs.Prelude.{ℤ}
use Rattle.std.proofs.Common.{ap, sym, ◌∙◌}
use Rattle.std.proofs.lemmas.Bool.Decides.{Decides-int_eq}
use Rattle.fixed_units.specs.Lines.{line_at}
use Rattle.fixed_units.proofs.LineLemmas.{line-last}
use Rattle.daily_values.proofs.sums.last_value.Goals as goal

pub returns-then-eq-clause-value : goal.returns-then-eq-clause-value
returns-then-eq-clause-value c =
    let p : ℤ × ℤ = c.args.left.now in
    let q : ℤ × ℤ = c.args.right.now in
    let here = (Decides-int_eq c.args.at q.0).0 (sym c.eq.ensures ∙ c.if-eq.true) in
    sym (ap (line_at p q) here ∙ line-last p q c.requires.rising)
