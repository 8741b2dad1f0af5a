use Rattle.std.proofs.Common.{◌≡◌, ℕ, ◌*◌, ◌≤◌, pos, unsigned_abs, subst, sym, rules}
use Rattle.fixed_units.specs.Quantities.{most_discharge}
use Rattle.fixed_units.specs.Rounding.{round}
use Rattle.trial.proofs.MeanLemmas.{mean_few}
use Rattle.trial.proofs.means.rounded_mean.Goals as goal

pub overflow_cast-result : goal.overflow_cast-result
overflow_cast-result c =
    let mean : c.unsigned_abs.result ≡ unsigned_abs (round c.args.sum.now.twice (pos (2 * c.args.sum.now.covered))) = search rules in
    let few : c.unsigned_abs.result ≤ most_discharge =
    subst (λ (n : ℕ). n ≤ most_discharge) (sym mean) (mean_few c.args.sum.now.twice c.args.sum.now.covered c.requires.some c.requires.low c.requires.high) in
    search rules

pub returns-clause-few : goal.returns-clause-few
returns-clause-few c =
    let mean : c.unsigned_abs.result ≡ unsigned_abs (round c.args.sum.now.twice (pos (2 * c.args.sum.now.covered))) = search rules in
    subst (λ (n : ℕ). n ≤ most_discharge) (sym mean) (mean_few c.args.sum.now.twice c.args.sum.now.covered c.requires.some c.requires.low c.requires.high)
