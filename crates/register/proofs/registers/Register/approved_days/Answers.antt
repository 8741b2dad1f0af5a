-- The statuses of the days of the calendar are those of the history.
use Rattle.std.proofs.Common.{ap, ◌∙◌}
use Rattle.approval.specs.Kept.{standing_in}
use Rattle.approval.specs.Statuses.{approved_days}
use Rattle.register.specs.Registered.{Registered}
use Rattle.register.proofs.SameStatusLemmas.{approved_days_told, statuses_seen}
use Rattle.register.proofs.registers.Register.approved_days.Goals as goal

pub returns : goal.returns
returns c =
    c.approved_days.ensures
    ∙ ap (λ (r : Registered). approved_days (λ day. (standing_in r.statuses c.args.site day).status)) c.self.view_is
    ∙ approved_days_told c.args.self.now.history.events c.args.self.now.statuses
    (statuses_seen _ c.args.self.now c.self.view_is c.self.invariant.statuses_tell) c.args.site
