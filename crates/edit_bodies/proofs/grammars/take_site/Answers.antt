use Rattle.std.proofs.Common.{◌≡◌, Err, ap, ◌∙◌, rules}
use Rattle.edit_bodies.proofs.ChainLemmas.{same_answer}
use Rattle.edit_bodies.proofs.MemberLemmas.{string_read, string_not_read}
use Rattle.edit_bodies.proofs.grammars.take_site.Goals as goal
use Rattle.edit_bodies.specs.Grammars.{site_of}
use Rattle.edit_bodies.specs.Members.{required}
use Rattle.edit_bodies.specs.Trees.{left}
use Rattle.edit_bodies.specs.declared.members.Member.TheVariants.{Site}
use Rattle.site_texts.specs.SiteText.{site_of_text}

pub returns-in_err-text : goal.returns-in_err-text
returns-in_err-text c =
    let same : c.from_residual.result ≡ Err c.in_err-text.field-0.0 = search rules in
    same_answer (required Site site_of) (left c.args.fields.now) (left c.take_text.new.fields) c.in_err-text.field-0.0 c.from_residual.result same (string_not_read Site site_of_text (left c.args.fields.now) (left c.take_text.new.fields) c.in_err-text.field-0.0 c.in_err-text.ensures)

pub returns : goal.returns
returns c =
    rw c.ok_or.ensures.value (string_read Site site_of_text (left c.args.fields.now) (left c.take_text.new.fields) c.in_ok-text.text.now c.read_site.result c.in_ok-text.ensures (c.read_site.ensures ∙ ap site_of_text c.as_bytes.ensures.value))
