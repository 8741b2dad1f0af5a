-- So many fields, and no other number.
use Rattle.std.proofs.Common.{◌≡◌, length, sym, ap, ◌∙◌, arith}
use Rattle.draw.specs.Rows.{reading_in}
use Rattle.draw.proofs.FieldLemmas.{reading_others, no_text, texts_three}
use Rattle.draw.proofs.rows.read_reading.Goals as goal
use Rattle.draw.proofs.rows.read_reading.Goals.{in_default-via-then-fields-lt3, in_default-via-else-fields-lt3+else-fields-lt4}

pub returns-in_default : goal.returns-in_default
returns-in_default c =
    let other : length c.args.fields.now ≡ 3 → ⊥ =
    elim c.in_default.branch [ in_default-via-then-fields-lt3 w ↦ λ e. grind arith | in_default-via-else-fields-lt3+else-fields-lt4 w ↦ λ e. grind arith ] in
    sym (reading_others c.args.fields.now other)

pub returns : goal.returns
unfolding reading_in
returns c = c.reading_of.ensures ∙ sym (ap reading_in (texts_three c.args.fields.now no_text (omega arith)))
