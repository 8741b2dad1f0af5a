use Rattle.std.proofs.Common.{◌∙◌}
use Rattle.desk.proofs.AnswerLemmas.{on_ok}
use Rattle.desk.proofs.TurnLemmas.{settled_reply}
use Rattle.desk.proofs.answers.settle.Goals as goal

pub returns-clause-reply : goal.returns-clause-reply
returns-clause-reply g c =
    on_ok c.make.result _ _
    (λ is. is ∙ settled_reply c.args.office.now.register.history c.settle.new.self.register.history c.pending.result c.in_ok-published.published
    c.in_ok-published.ensures.history c.pending.ensures c.in_ok-published.ensures.count)
    c.make.ensures
