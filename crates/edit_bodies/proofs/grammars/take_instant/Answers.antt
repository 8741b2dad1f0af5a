use Rattle.std.proofs.Common.{◌≡◌, Err, ap, ◌∙◌, rules}
use Rattle.civil_days.specs.Spelling.{stamp_of_text}
use Rattle.edit_bodies.proofs.ChainLemmas.{same_answer}
use Rattle.edit_bodies.proofs.MemberLemmas.{string_read, string_not_read}
use Rattle.edit_bodies.proofs.TextLemmas.{ok_or-each}
use Rattle.edit_bodies.proofs.grammars.take_instant.Goals as goal
use Rattle.edit_bodies.specs.Grammars.{instant_of}
use Rattle.edit_bodies.specs.Members.{required}
use Rattle.edit_bodies.specs.Trees.{left}
use Rattle.fixed_units.specs.Quantities.{IsStamp}

pub returns-in_err-text-clause-read : goal.returns-in_err-text-clause-read
returns-in_err-text-clause-read c =
    let same : c.from_residual.result ≡ Err c.in_err-text.field-0.0 = search rules in
    same_answer (required c.args.member instant_of) (left c.args.fields.now) (left c.take_text.new.fields) c.in_err-text.field-0.0 c.from_residual.result same (string_not_read c.args.member stamp_of_text (left c.args.fields.now) (left c.take_text.new.fields) c.in_err-text.field-0.0 c.in_err-text.ensures)

pub returns-clause-read : goal.returns-clause-read
returns-clause-read c =
    rw c.ok_or.ensures.value (string_read c.args.member stamp_of_text (left c.args.fields.now) (left c.take_text.new.fields) c.in_ok-text.text.now c.read_instant.result c.in_ok-text.ensures (c.read_instant.ensures.value ∙ ap stamp_of_text c.as_bytes.ensures.value))

pub returns-clause-stamp : goal.returns-clause-stamp
returns-clause-stamp c = rw c.ok_or.ensures.value (ok_or-each IsStamp c.read_instant.result _ c.read_instant.ensures.stamp)
