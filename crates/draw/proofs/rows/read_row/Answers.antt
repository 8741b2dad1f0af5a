-- The kind, and the fields behind it.
use Rattle.std.proofs.Common.{sym, ap, ◌∙◌}
use Rattle.draw.specs.Rows.{row_in}
use Rattle.draw.proofs.FieldLemmas.{no_field, no_text, texts_first}
use Rattle.draw.proofs.rows.read_row.Goals as goal

pub returns-in_default : goal.returns-in_default
returns-in_default c = sym (no_field c.args.fields.now c.in_default.len_below)

pub returns : goal.returns
unfolding row_in
returns c = c.row_by.ensures ∙ sym (ap row_in (texts_first c.args.fields.now no_text c.in-len1-up.len_at_least))
