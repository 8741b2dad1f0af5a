use Rattle.std.proofs.Common.{◌≡◌, ℕ, ◌*◌, ◌<◌, ◌≤◌, pos, unsigned_abs, ap, sym, ◌∙◌, arith}
use Rattle.daily_values.specs.Figures.{needed}
use Rattle.daily_values.specs.declared.sums.Sum.{Sum}
use Rattle.fixed_units.specs.Rounding.{round}
use Rattle.trial.proofs.MeanLemmas.{mean_covered, mean_uncovered}
use Rattle.trial.proofs.means.mean_of.Goals as goal

pub returns-then-sum-need-clause-mean : goal.returns-then-sum-need-clause-mean
returns-then-sum-need-clause-mean c =
    let test = c.if-sum-need.true in
    let covers = ap (λ (s : Sum). s.covered) c.discharge-sum.ensures.sum in
    let needs = c.need.ensures.need in
    mean_uncovered c.args.figures.now (omega (arith, test, covers, needs))

pub returns-clause-mean : goal.returns-clause-mean
returns-clause-mean c =
    let test = c.if-sum-need.false in
    let covers = ap (λ (s : Sum). s.covered) c.discharge-sum.ensures.sum in
    let needs = c.need.ensures.need in
    mean_covered c.args.figures.now c.rounded_mean.result (omega (arith, test, covers, needs))
    (c.rounded_mean.ensures.mean ∙ ap (λ (s : Sum). unsigned_abs (round s.twice (pos (2 * s.covered)))) c.discharge-sum.ensures.sum)
