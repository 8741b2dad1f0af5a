use Rattle.std.proofs.Common.{ap, ◌∙◌}
use Rattle.trial.proofs.runs.Run.kept.Goals as goal
use Rattle.trial.specs.Figures.{kept}
use Rattle.trial.specs.Trials.{Trial}

pub returns : goal.returns
unfolding kept
returns g c = c.kept.ensures ∙ ap (λ (t : Trial). kept t) c.self.view_is
