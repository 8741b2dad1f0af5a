-- So many fields, and no other number.
use Rattle.std.proofs.Common.{◌≡◌, length, sym, ap, ◌∙◌, arith}
use Rattle.draw.specs.Rows.{measurement_in}
use Rattle.draw.proofs.FieldLemmas.{measurement_others, no_text, texts_four}
use Rattle.draw.proofs.rows.read_measurement.Goals as goal
use Rattle.draw.proofs.rows.read_measurement.Goals.{in_default-via-then-fields-lt4, in_default-via-else-fields-lt4+else-fields-lt5}

pub returns-in_default : goal.returns-in_default
returns-in_default c =
    let other : length c.args.fields.now ≡ 4 → ⊥ =
    elim c.in_default.branch [ in_default-via-then-fields-lt4 w ↦ λ e. grind arith | in_default-via-else-fields-lt4+else-fields-lt5 w ↦ λ e. grind arith ] in
    sym (measurement_others c.args.fields.now other)

pub returns : goal.returns
unfolding measurement_in
returns c = c.measurement_of.ensures ∙ sym (ap measurement_in (texts_four c.args.fields.now no_text (omega arith)))
