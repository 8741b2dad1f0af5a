use Rattle.edits.proofs.TextLemmas.{name_utf8}
use Rattle.edits.proofs.making.is_zone.Goals as goal

pub returns-in_default-clause-told : goal.returns-in_default-clause-told
returns-in_default-clause-told c =
    (λ e. absurd cc, λ zone. absurd (c.in_default.ensures.cases.0 (name_utf8 c.args.text.now zone.printed)))
