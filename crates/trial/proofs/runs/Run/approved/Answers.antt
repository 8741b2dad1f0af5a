use Rattle.std.proofs.Common.{ap, ◌∙◌}
use Rattle.trial.proofs.runs.Run.approved.Goals as goal
use Rattle.trial.specs.Figures.{approved}
use Rattle.trial.specs.Trials.{Trial}

pub returns : goal.returns
unfolding approved
returns g c = c.approved.ensures ∙ ap (λ (t : Trial). approved t) c.self.view_is
