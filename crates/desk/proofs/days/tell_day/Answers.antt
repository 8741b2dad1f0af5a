use Rattle.std.proofs.Common.{sym, ◌∙◌, ap}
use Rattle.desk.specs.Replies.{day_reply}
use Rattle.history.specs.Statuses.{status_at}
use Rattle.desk.proofs.AnswerLemmas.{on_ok}
use Rattle.desk.proofs.DailyLemmas.{day_told}
use Rattle.desk.proofs.days.tell_day.Goals as goal

pub returns-in-Some : goal.returns-in-Some
returns-in-Some g c =
    let events = c.args.office.now.register.history.events in
    on_ok c.make.result _ _ (λ is. is ∙ day_told events c.args.site c.args.day c.in-Some.known c.in-Some.ensures) c.make.ensures

pub returns-in-None : goal.returns-in-None
returns-in-None g c =
    let events = c.args.office.now.register.history.events in
    on_ok c.make-in-None.result _ _ (λ is. is ∙ ap (day_reply (status_at events c.args.site c.args.day)) (sym c.in-None.ensures)) c.make-in-None.ensures
