use Rattle.std.proofs.Common.{◌≡◌, ℕ, ◌-◌, ◌%◌, codes, ap, arith}
use Rattle.trial.proofs.TextLemmas.{line_is, six_lines}
use Rattle.trial.proofs.trials.write_figures.Goals as goal
use Rattle.trial.specs.Figures.{publications}

pub returns : goal.returns
returns g c =
    let published : c.events.result - c.edits-2.result ≡ publications c.args.run.now.history.events = omega (arith, c.requires.counted, c.events.ensures, c.edits-2.ensures) in
    six_lines c.args.out.now c.write_figure.new.out c.write_figure-2.new.out c.write_figure-3.new.out c.write_figure-4.new.out c.write_figure-5.new.out c.write_figure-6.new.out
    _ _ _ _ _ _
    (line_is c.args.out.now c.write_figure.new.out (codes "stations") _ _ c.kept.ensures c.in_ok-write_figure.ensures)
    (line_is c.write_figure.new.out c.write_figure-2.new.out (codes "edits") _ _ c.edits.ensures c.in_ok-write_figure-2.ensures)
    (line_is c.write_figure-2.new.out c.write_figure-3.new.out (codes "locked") _ _ c.locked.ensures c.in_ok-write_figure-3.ensures)
    (line_is c.write_figure-3.new.out c.write_figure-4.new.out (codes "published") _ _ published c.in_ok-write_figure-4.ensures)
    (line_is c.write_figure-4.new.out c.write_figure-5.new.out (codes "approved") _ _ c.approved.ensures c.in_ok-write_figure-5.ensures)
    (line_is c.write_figure-5.new.out c.write_figure-6.new.out (codes "total") _ _ (ap (λ (n : ℕ). n % 1_000_000_000) c.total.ensures) c.in_ok-write_figure-6.ensures)
