use Rattle.std.proofs.Common.{refl, sym, ap, ◌∙◌}
use Rattle.edit_bodies.proofs.TextLemmas.{comment-told, kept_if-is}
use Rattle.edit_bodies.proofs.comments.comment_from.Goals as goal
use Rattle.edit_bodies.specs.Grammars.{kept_if}
use Rattle.edit_bodies.specs.Texts.{is_comment}
use Rattle.edits.specs.Texts.{IsComment}

pub returns-in-Ok-Some : goal.returns-in-Ok-Some
returns-in-Ok-Some c =
    let bytes = c.as_bytes.result.now in
    ap (kept_if is_comment) (sym c.as_bytes.ensures.value)
    ∙ sym (kept_if-is is_comment (IsComment bytes) bytes c.in-Ok-Some.field-0 (comment-told bytes) c.in-Ok-Some.ensures.range c.in-Ok-Some.ensures.value)
    ∙ c.in-Ok-Some.field-0-is

pub returns-in-Ok-None : goal.returns-in-Ok-None
returns-in-Ok-None c =
    let bytes = c.as_bytes.result.now in (
      ap (kept_if is_comment) (sym c.as_bytes.ensures.value)
          ∙ sym (kept_if-is is_comment (IsComment bytes) bytes c.in-Ok-None.field-0 (comment-told bytes) c.in-Ok-None.ensures.range c.in-Ok-None.ensures.value)
          ∙ c.in-Ok-None.field-0-is,
      refl,
    )
