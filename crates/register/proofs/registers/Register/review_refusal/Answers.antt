-- What the statuses do not refuse a day that awaits an edit may.
use Rattle.std.specs.Prelude.{◌≡◌, Option}
use Rattle.std.proofs.Common.{ap, sym, ◌∙◌}
use Rattle.edits.specs.declared.content.What.{What}
use Rattle.edits.specs.declared.content.What.TheVariants.{Decide}
use Rattle.edits.specs.declared.decisions.Decision.{Decision}
use Rattle.edits.specs.declared.decisions.Decision.TheVariants.{Approve}
use Rattle.history.specs.Verdicts.{awaiting, or_else, refused_as_awaiting}
use Rattle.office_inputs.specs.declared.refusals.Refusal.{Refusal}
use Rattle.register.proofs.registers.Register.review_refusal.Goals as goal

pub returns-in-Some : goal.returns-in-Some
returns-in-Some c =
    sym (ap (λ (o : Option Refusal). or_else o (refused_as_awaiting c.args.self.now.history c.args.edit.now)) (sym c.status_refusal.ensures ∙ c.in-Some.is))

pub returns-in-Approve : goal.returns-in-Approve
returns-in-Approve c =
    let what : c.args.edit.now.what ≡ Decide c.in-Decide.from c.in-Decide.to Approve = c.in-Decide.is ∙ ap (λ (d : Decision). Decide c.in-Decide.from c.in-Decide.to d) c.in-Approve.is in
    c.awaiting.ensures ∙ sym (ap (λ (w : What). awaiting c.args.self.now.history.events c.args.edit.now.site w) what)
    ∙ sym (ap (λ (o : Option Refusal). or_else o (refused_as_awaiting c.args.self.now.history c.args.edit.now)) (sym c.status_refusal.ensures ∙ c.in_default.is))
