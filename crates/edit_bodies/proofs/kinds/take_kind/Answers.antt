use Rattle.std.proofs.Common.{◌≡◌, Err, ap, ◌∙◌, rules}
use Rattle.edit_bodies.proofs.ChainLemmas.{same_answer}
use Rattle.edit_bodies.proofs.MemberLemmas.{string_read, string_not_read}
use Rattle.edit_bodies.proofs.kinds.take_kind.Goals as goal
use Rattle.edit_bodies.specs.Kinds.{kind_of}
use Rattle.edit_bodies.specs.Members.{required}
use Rattle.edits.specs.Kinds.{kind_named}
use Rattle.edit_bodies.specs.Trees.{left}
use Rattle.edit_bodies.specs.declared.members.Member.TheVariants.{Kind}

pub returns-in_err-text : goal.returns-in_err-text
returns-in_err-text c =
    let same : c.from_residual.result ≡ Err c.in_err-text.field-0.0 = search rules in
    same_answer (required Kind kind_of) (left c.args.fields.now) (left c.take_text.new.fields) c.in_err-text.field-0.0 c.from_residual.result same (string_not_read Kind kind_named (left c.args.fields.now) (left c.take_text.new.fields) c.in_err-text.field-0.0 c.in_err-text.ensures)

pub returns : goal.returns
returns c =
    rw c.ok_or.ensures.value (string_read Kind kind_named (left c.args.fields.now) (left c.take_text.new.fields) c.in_ok-text.text.now c.named.result c.in_ok-text.ensures (c.named.ensures ∙ ap kind_named c.as_bytes.ensures.value))
