use Rattle.std.proofs.Common.{ap, ◌∙◌}
use Rattle.history.specs.Events.{History}
use Rattle.trial.proofs.runs.Run.settle.Goals as goal
use Rattle.trial.specs.Trials.{Trial, after_settling}

pub returns-clause-follows : goal.returns-clause-follows
unfolding after_settling
returns-clause-follows g c =
    ap (λ (h : History). record { history = h; asked = c.self.inside.asked; locked = c.self.inside.locked }) c.in_ok-settle.ensures.history
    ∙ ap (λ (t : Trial). after_settling t) c.self.view_is
