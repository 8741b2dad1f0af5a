use Rattle.shared_office.proofs.PassageLemmas.{passes_told}
use Rattle.told_edits.proofs.telling.tell_edit.Goals as goal

pub returns-clause-passed : goal.returns-clause-passed
returns-clause-passed g c =
    passes_told g.D.Disk c.args.office.now.register.history c.take-told.new.self.register.history c.args.edit c.take-told.result
    c.args.office.now.disk c.take-told.new.self.disk c.take-told.ensures.edited c.take-told.ensures.counted c.take-told.ensures.cause
    c.take-told.ensures.any_moment c.take-told.ensures.told
