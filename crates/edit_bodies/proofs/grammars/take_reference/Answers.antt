use Rattle.std.proofs.Common.{◌≡◌, Err, ap, ◌∙◌, rules}
use Rattle.edit_bodies.proofs.ChainLemmas.{same_answer}
use Rattle.edit_bodies.proofs.MemberLemmas.{string_read, string_not_read}
use Rattle.edit_bodies.proofs.TextLemmas.{reference-told, kept_if-is}
use Rattle.edit_bodies.proofs.grammars.take_reference.Goals as goal
use Rattle.edit_bodies.specs.Grammars.{kept_if, reference_of}
use Rattle.edit_bodies.specs.Members.{required}
use Rattle.edit_bodies.specs.Trees.{left}
use Rattle.edit_bodies.specs.Texts.{is_reference}
use Rattle.edit_bodies.specs.declared.members.Member.TheVariants.{Ref}

pub returns-in_err-text : goal.returns-in_err-text
returns-in_err-text c =
    let same : c.from_residual.result ≡ Err c.in_err-text.field-0.0 = search rules in
    same_answer (required Ref reference_of) (left c.args.fields.now) (left c.take_text.new.fields) c.in_err-text.field-0.0 c.from_residual.result same (string_not_read Ref (kept_if is_reference) (left c.args.fields.now) (left c.take_text.new.fields) c.in_err-text.field-0.0 c.in_err-text.ensures)

pub returns : goal.returns
returns c =
    let there = kept_if-is is_reference _ _ c.new.result (reference-told _) c.new.ensures.range c.new.ensures.value in
    rw c.ok_or.ensures.value (string_read Ref (kept_if is_reference) (left c.args.fields.now) (left c.take_text.new.fields) c.in_ok-text.text.now c.new.result c.in_ok-text.ensures (there ∙ ap (kept_if is_reference) c.as_bytes.ensures.value))
