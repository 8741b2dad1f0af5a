use Rattle.std.proofs.Common.{sym, ◌∙◌, ap, ◌++◌}
use Rattle.std.proofs.lemmas.List.{append-nil}
use Rattle.daily_values.proofs.SumLemmas.{no-pairs}
use Rattle.daily_values.proofs.from_scratch.neighbours.Goals as goal

pub returns : goal.returns
returns c =
    let none = no-pairs c.loop-rest.rest.now c.in_default.len_below in
    sym (append-nil c.loop-rest.pairs.items) ∙ ap (λ ps. c.loop-rest.pairs.items ++ ps) (sym none) ∙ c.loop-rest.invariant
