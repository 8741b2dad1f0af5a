use Rattle.std.proofs.Common.{ap, sym, ◌∙◌}
use Rattle.trial.proofs.TakingLemmas.{told_asked}
use Rattle.trial.proofs.runs.Run.take.Goals as goal
use Rattle.trial.specs.Trials.{Trial, after_asking}

pub returns-clause-after : goal.returns-clause-after
returns-clause-after g c =
    let t : Trial = record { history = c.self.inside.office.register.history; asked = c.self.inside.asked; locked = c.self.inside.locked } in
    told_asked t c.args.edit c.take-told.new.self.register.history c.take-told.result c.in-Some.locks c.take-told.ensures.edited (sym c.in-Some.ensures.locks)
    ∙ ap (λ (u : Trial). after_asking u c.args.edit) c.self.view_is
