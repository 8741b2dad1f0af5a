-- The halves are cut where the whole is.
use Rattle.std.specs.Prelude.{◌++◌, drop, List}
use Rattle.std.proofs.Common.{ap, ◌∙◌}
use Rattle.fixed_units.specs.declared.readings.Reading.{Reading}
use Rattle.readings.proofs.HalvesLemmas.{back_cut}
use Rattle.readings.proofs.halves.Halves.split_at.Goals as goal

pub returns-clause-back : goal.returns-clause-back
returns-clause-back c =
    let xs = c.args.self.now.left.now in
    let ys = c.args.self.now.right.now in
    ap (λ (l : List Reading). l ++ c.split_at-2.result.1.now) c.split_at.ensures.back ∙ ap (λ (l : List Reading). drop c.min.result xs ++ l) c.split_at-2.ensures.back
    ∙ back_cut xs ys c.args.place c.min.result c.saturating_sub.result c.min.ensures c.saturating_sub.ensures
