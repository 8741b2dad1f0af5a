-- A format bars the comments that it does not hold.
use Rattle.std.proofs.Common.{ap, ◌∙◌}
use Rattle.history.specs.Verdicts.{bars}
use Rattle.history.proofs.VerdictLemmas.{told_barred}
use Rattle.register.specs.Registered.{Registered}
use Rattle.register.proofs.registers.Register.bars_comment.Goals as goal

pub returns : goal.returns
returns c =
    told_barred c.holds.result c.self.inside.format c.args.edit.now.comment c.holds.ensures
    ∙ ap (λ (r : Registered). bars r.history.format c.args.edit.now.comment) c.self.view_is
