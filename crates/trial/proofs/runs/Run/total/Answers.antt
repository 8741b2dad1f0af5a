use Rattle.std.proofs.Common.{ap, ◌∙◌}
use Rattle.trial.proofs.runs.Run.total.Goals as goal
use Rattle.trial.specs.Figures.{total}
use Rattle.trial.specs.Trials.{Trial}

pub returns : goal.returns
unfolding total
returns g c = c.total.ensures ∙ ap (λ (t : Trial). total t) c.self.view_is
