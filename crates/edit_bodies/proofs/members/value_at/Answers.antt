use Rattle.std.proofs.Common.{◌∙◌, ap, sym, option_map}
use Rattle.edit_bodies.proofs.FieldLemmas.{field_found, field_passed}
use Rattle.edit_bodies.proofs.members.value_at.Goals as goal
use Rattle.edit_bodies.proofs.members.value_at.Goals.{then-eq, else-eq}
use Rattle.edit_bodies.specs.Trees.{stated}

pub loop-field-preserved : goal.loop-field-preserved
loop-field-preserved c =
    let passed = field_passed c.text-name.result.now c.deref-field-items.result.now c.loop-field.field-index c.field-item.result c.loop-field-test.true c.field-item.is in
    let found = field_found c.text-name.result.now c.deref-field-items.result.now c.loop-field.field-index c.field-item.result c.loop-field-test.true c.field-item.is in
    elim c.if-eq.branch [
      | then-eq w ↦ ap (option_map (λ value. stated value.now)) w.found-is ∙ found (sym c.eq.ensures ∙ w.if-eq.true)
      | else-eq w ↦ ap (option_map (λ value. stated value.now)) w.found-is ∙ c.loop-field.invariant ∙ passed (sym c.eq.ensures ∙ w.if-eq.false)
    ]
