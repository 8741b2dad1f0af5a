use Rattle.std.proofs.Common.{◌≡◌, Err, rules}
use Rattle.edit_bodies.proofs.ChainLemmas.{same_answer}
use Rattle.edit_bodies.proofs.MemberLemmas.{string_found_so, string_not_read}
use Rattle.edit_bodies.proofs.grammars.take_name.Goals as goal
use Rattle.edit_bodies.specs.Grammars.{kept_if, name_of}
use Rattle.edit_bodies.specs.Members.{required}
use Rattle.edit_bodies.specs.Trees.{left}
use Rattle.edit_bodies.specs.Texts.{is_name}
use Rattle.edit_bodies.specs.declared.members.Member.TheVariants.{Name}

pub returns-in_err-text-clause-read : goal.returns-in_err-text-clause-read
returns-in_err-text-clause-read c =
    let same : c.from_residual.result ≡ Err c.in_err-text.field-0.0 = search rules in
    same_answer (required Name name_of) (left c.args.fields.now) (left c.take_text.new.fields) c.in_err-text.field-0.0 c.from_residual.result same (string_not_read Name (kept_if is_name) (left c.args.fields.now) (left c.take_text.new.fields) c.in_err-text.field-0.0 c.in_err-text.ensures)

pub returns-clause-read : goal.returns-clause-read
returns-clause-read c =
    string_found_so Name (kept_if is_name) (left c.args.fields.now) (left c.take_text.new.fields) c.in_ok-text.text.now c.own_name.result c.in_ok-text.ensures c.own_name.ensures.read
