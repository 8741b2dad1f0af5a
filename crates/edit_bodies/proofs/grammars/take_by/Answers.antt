use Rattle.std.proofs.Common.{◌≡◌, Err, ap, ◌∙◌, rules}
use Rattle.edit_bodies.proofs.ChainLemmas.{same_answer}
use Rattle.edit_bodies.proofs.MemberLemmas.{string_read, string_not_read}
use Rattle.edit_bodies.proofs.TextLemmas.{initials-told, kept_if-is}
use Rattle.edit_bodies.proofs.grammars.take_by.Goals as goal
use Rattle.edit_bodies.specs.Grammars.{kept_if, by_of}
use Rattle.edit_bodies.specs.Members.{required}
use Rattle.edit_bodies.specs.Trees.{left}
use Rattle.edit_bodies.specs.Texts.{are_initials}
use Rattle.edit_bodies.specs.declared.members.Member.TheVariants.{By}

pub returns-in_err-text : goal.returns-in_err-text
returns-in_err-text c =
    let same : c.from_residual.result ≡ Err c.in_err-text.field-0.0 = search rules in
    same_answer (required By by_of) (left c.args.fields.now) (left c.take_text.new.fields) c.in_err-text.field-0.0 c.from_residual.result same (string_not_read By (kept_if are_initials) (left c.args.fields.now) (left c.take_text.new.fields) c.in_err-text.field-0.0 c.in_err-text.ensures)

pub returns : goal.returns
returns c =
    let there = kept_if-is are_initials _ _ c.new.result (initials-told _) c.new.ensures.range c.new.ensures.value in
    rw c.ok_or.ensures.value (string_read By (kept_if are_initials) (left c.args.fields.now) (left c.take_text.new.fields) c.in_ok-text.text.now c.new.result c.in_ok-text.ensures (there ∙ ap (kept_if are_initials) c.as_bytes.ensures.value))
