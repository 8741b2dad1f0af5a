-- By the standings of the edit's site.
use Rattle.std.specs.Prelude.{List}
use Rattle.std.proofs.Common.{ap, ◌∙◌}
use Rattle.approval.specs.Kept.{standing_at}
use Rattle.approval.specs.Statuses.{objection_of}
use Rattle.approval.specs.declared.days.DayStanding.{DayStanding}
use Rattle.approval.proofs.statuses.Statuses.objection.Goals as goal

pub returns : goal.returns
returns c =
    c.objection_among.ensures ∙ ap (λ (l : List DayStanding). objection_of (λ day. (standing_at l day).status) c.args.edit.now.by c.args.edit.now.what) c.days.ensures.days
