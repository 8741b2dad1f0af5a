use Rattle.std.proofs.Common.{◌≡◌, Err, ap, ◌∙◌, rules}
use Rattle.edit_bodies.proofs.ChainLemmas.{same_answer}
use Rattle.edit_bodies.proofs.MemberLemmas.{string_read, string_not_read}
use Rattle.edit_bodies.proofs.TextLemmas.{array-told, kept_if-is, ok_or-holds}
use Rattle.edit_bodies.proofs.grammars.take_array.Goals as goal
use Rattle.edit_bodies.specs.Grammars.{kept_if, array_of}
use Rattle.edit_bodies.specs.Members.{required}
use Rattle.edit_bodies.specs.Trees.{left}
use Rattle.edit_bodies.specs.Texts.{is_array}
use Rattle.fixed_units.specs.RoundingArray.{IsRoundingArray}

pub returns-in_err-text-clause-read : goal.returns-in_err-text-clause-read
returns-in_err-text-clause-read c =
    let same : c.from_residual.result ≡ Err c.in_err-text.field-0.0 = search rules in
    same_answer (required c.args.member array_of) (left c.args.fields.now) (left c.take_text.new.fields) c.in_err-text.field-0.0 c.from_residual.result same (string_not_read c.args.member (kept_if is_array) (left c.args.fields.now) (left c.take_text.new.fields) c.in_err-text.field-0.0 c.in_err-text.ensures)

pub returns-clause-read : goal.returns-clause-read
returns-clause-read c =
    let there = kept_if-is is_array _ _ c.read.result (array-told _) c.read.ensures.range c.read.ensures.value in
    rw c.ok_or.ensures.value (string_read c.args.member (kept_if is_array) (left c.args.fields.now) (left c.take_text.new.fields) c.in_ok-text.text.now c.read.result c.in_ok-text.ensures (there ∙ ap (kept_if is_array) c.as_bytes.ensures.value))

pub returns-clause-array : goal.returns-clause-array
returns-clause-array c = rw c.ok_or.ensures.value (ok_or-holds IsRoundingArray _ c.read.result _ c.read.ensures.range c.read.ensures.value)
