use Rattle.std.proofs.Common.{◌≡◌, ◌≤◌, length, sym, ap, ◌∙◌, subst, arith}
use Rattle.gapcol.specs.Gaps.{gap_room}
use Rattle.gapcol.proofs.Gaps.{count}
use Rattle.gapcol.proofs.column.Column.reserve.Goals as goal

pub returns-clause-room : goal.returns-clause-room
returns-clause-room g c =
    let a = c.self.inside.gap in let h = c.self.invariant in let w = c.in_ok-wide.wide in let made = c.in_ok-wide.ensures.made in let big = c.grown.ensures in
    let same : w.len ≡ a.len = sym (count w made.0) ∙ ap length made.2 ∙ count a h in
    subst (λ x. c.args.n ≤ gap_room x) (sym c.replace.ensures.after) (omega (arith, made.1, same, big))
