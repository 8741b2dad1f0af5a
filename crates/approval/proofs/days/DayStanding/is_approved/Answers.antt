-- Its day is one of the calendar.
use Rattle.std.proofs.Common.{ap, sym, ◌∙◌, ◌&&◌, Bool}
use Rattle.approval.specs.Statuses.{is_approved}
use Rattle.approval.proofs.CountLemmas.{day_yes}
use Rattle.approval.proofs.days.DayStanding.is_approved.Goals as goal

pub returns : goal.returns
returns c =
    let here = day_yes c.args.self.now.day c.get-number.ensures.range in
    c.is_approved.ensures ∙ sym (ap (λ (b : Bool). b && is_approved c.args.self.now.status) here)
