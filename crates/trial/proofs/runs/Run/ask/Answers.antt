use Rattle.std.proofs.Common.{◌+◌, ap, subst, ◌∙◌}
use Rattle.trial.proofs.runs.Run.ask.Goals as goal
use Rattle.trial.specs.Trials.{Trial, after_asking}
use Rattle.trial_orders.specs.References.{IsAsked}

pub returns-clause-follows : goal.returns-clause-follows
returns-clause-follows g c = (
  c.in_ok-edit.edit,
  subst (λ (t : Trial). IsAsked (t.asked + 1) c.args.by c.args.site c.args.what c.in_ok-edit.edit) c.self.view_is c.in_ok-edit.ensures,
  c.in_ok-take.ensures.after ∙ ap (λ (t : Trial). after_asking t c.in_ok-edit.edit) c.self.view_is,
)
