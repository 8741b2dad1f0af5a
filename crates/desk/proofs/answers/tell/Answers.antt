use Rattle.std.proofs.Common.{sym, ◌∙◌, ap, subst}
use Rattle.desk.specs.Asked.{IsReading}
use Rattle.desk.specs.Replies.{reply_to}
use Rattle.desk.proofs.AnswerLemmas.{no_turns, on_ok}
use Rattle.desk.proofs.answers.tell.Goals as goal
use Rattle.http_api.specs.declared.asks.Ask.{Ask}

pub returns-in-Turns : goal.returns-in-Turns
returns-in-Turns g c =
    let h = c.args.office.now.register.history in
    let none = subst IsReading c.in-Turns.is c.requires in
    on_ok c.make.result _ _
    (λ is. is ∙ no_turns h c.in-Turns.field-0 c.pending.result none c.pending.ensures ∙ ap (λ (ask : Ask). reply_to h ask) (sym c.in-Turns.is))
    c.make.ensures
