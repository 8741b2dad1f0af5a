-- So many fields, and no other number.
use Rattle.std.proofs.Common.{◌≡◌, length, sym, ap, ◌∙◌, arith}
use Rattle.draw.specs.Rows.{day_in}
use Rattle.draw.proofs.FieldLemmas.{day_others, no_text, texts_five}
use Rattle.draw.proofs.rows.read_day_row.Goals as goal
use Rattle.draw.proofs.rows.read_day_row.Goals.{in_default-via-then-fields-lt5, in_default-via-else-fields-lt5+else-fields-lt6}

pub returns-in_default : goal.returns-in_default
returns-in_default c =
    let other : length c.args.fields.now ≡ 5 → ⊥ =
    elim c.in_default.branch [ in_default-via-then-fields-lt5 w ↦ λ e. grind arith | in_default-via-else-fields-lt5+else-fields-lt6 w ↦ λ e. grind arith ] in
    sym (day_others c.args.fields.now other)

pub returns : goal.returns
unfolding day_in
returns c = c.day_of.ensures ∙ sym (ap day_in (texts_five c.args.fields.now no_text (omega arith)))
