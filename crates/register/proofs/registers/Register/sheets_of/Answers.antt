-- No day of an approval awaits an edit.
use Rattle.std.specs.Prelude.{◌≡◌}
use Rattle.std.proofs.Common.{ap, sym, ◌∙◌}
use Rattle.edits.specs.declared.content.What.{What}
use Rattle.edits.specs.declared.content.What.TheVariants.{Decide}
use Rattle.edits.specs.declared.decisions.Decision.{Decision}
use Rattle.edits.specs.declared.decisions.Decision.TheVariants.{Approve}
use Rattle.history.specs.Verdicts.{awaiting}
use Rattle.register.proofs.ReviewLemmas.{none_first}
use Rattle.register.proofs.registers.Register.sheets_of.Goals as goal

pub day_sheets-requires-clause-awaits_none : goal.day_sheets-requires-clause-awaits_none
day_sheets-requires-clause-awaits_none c =
    let what : c.args.what.now ≡ Decide c.in-Decide.from c.in-Decide.to Approve = c.in-Decide.is ∙ ap (λ (d : Decision). Decide c.in-Decide.from c.in-Decide.to d) c.in-Approve.is in
    none_first c.args.self.now.history.events c.args.site c.in-Decide.from c.in-Decide.to
    (ap (λ (w : What). awaiting c.args.self.now.history.events c.args.site w) (sym what) ∙ c.requires.awaits_none)
