use Rattle.std.proofs.Common.{sym, ap, ◌∙◌, length}
use Rattle.std.specs.Prelude.{ℤ, List, ◌+◌, ◌*◌}
use Rattle.records.proofs.CurveLemmas.{length-entry}
use Rattle.records.proofs.lengths.entry_len.Goals as goal

pub returns-clause-value : goal.returns-clause-value
returns-clause-value c at prorate =
    ap (λ (points : List (ℤ × ℤ)). 10 + 16 * length points) c.points.ensures.points ∙ sym (length-entry at c.args.curve.now prorate)
