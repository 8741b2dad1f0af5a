use Rattle.std.proofs.Common.{Some, sym, ap, ◌∙◌}
use Rattle.edit_bodies.proofs.CompactLemmas.{review_made}
use Rattle.edit_bodies.proofs.TextLemmas.{initials-told, kept_if-is, reference-told}
use Rattle.edit_bodies.proofs.usual_form.review_of.Goals as goal
use Rattle.edit_bodies.specs.Grammars.{kept_if}
use Rattle.edit_bodies.specs.Texts.{are_initials, is_reference}
use Rattle.site_texts.specs.SiteText.{site_of_text}
use Rattle.edits.specs.Texts.{AreInitials, IsReference}

pub returns : goal.returns
returns c =
    let initials = kept_if-is are_initials (AreInitials c.as_bytes.result.now) c.as_bytes.result.now (Some c.in_ok-by.by) (initials-told c.as_bytes.result.now) c.in_ok-by.ensures.range c.in_ok-by.ensures.value in
    let code = kept_if-is is_reference (IsReference c.as_bytes-2.result.now) c.as_bytes-2.result.now (Some c.in_ok-reference.reference) (reference-told c.as_bytes-2.result.now) c.in_ok-reference.ensures.range c.in_ok-reference.ensures.value in
    rw (c.of.ensures.parts.0, c.of.ensures.parts.1, c.of.ensures.parts.2, c.of.ensures.parts.3, c.of.ensures.comment)
    (review_made c.args.sender.now c.args.from.now c.args.to.now c.in_ok-by.by c.in_ok-reference.reference c.in_ok-site.site c.in_ok-from.from c.in_ok-to.to
    (ap (kept_if are_initials) (sym c.as_bytes.ensures.value) ∙ sym initials)
    (ap (kept_if is_reference) (sym c.as_bytes-2.ensures.value) ∙ sym code)
    (ap site_of_text (sym c.as_bytes-3.ensures.value) ∙ sym c.in_ok-site.ensures)
    (sym c.in_ok-from.ensures)
    (sym c.in_ok-to.ensures.value))
