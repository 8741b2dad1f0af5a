use Rattle.std.proofs.Common.{ap}
use Rattle.edits.specs.declared.content.Edit.{Edit}
use Rattle.edits.proofs.EditLemmas.{same_edit}
use Rattle.edits.proofs.content.Edit.is_same.Goals as goal

pub returns-then-are_sent_alike-clause-equal : goal.returns-then-are_sent_alike-clause-equal
returns-then-are_sent_alike-clause-equal c =
    let alike = c.are_sent_alike.ensures.equal.0 c.if-are_sent_alike.true in (
      λ e. same_edit c.args.self.now c.args.other.now alike.0 alike.1 alike.2 alike.3 (c.is_same_what.ensures.equal.0 e),
      λ e. c.is_same_what.ensures.equal.1 (ap (λ (x : Edit). x.what) e),
    )
