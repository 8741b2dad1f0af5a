use Rattle.std.proofs.Common.{◌≡◌, length, Some, option_and_then, sym, ap, ◌∙◌, arith}
use Rattle.edit_bodies.proofs.ReadingLemmas.{wrong_row}
use Rattle.edit_bodies.proofs.RowLemmas.{three_items, two_items}
use Rattle.edit_bodies.proofs.reading_rows.reading_in.Goals as goal
use Rattle.edit_bodies.proofs.reading_rows.reading_in.Goals.{in_default-via-then-branch-lt2, in_default-via-else-branch-lt2+else-this-lt3+else-this-lt4}
use Rattle.edit_bodies.specs.Grammars.{reading_of_row}

pub returns-in_default : goal.returns-in_default
returns-in_default c =
    let two : length c.in_ok-items_in.field-0.now ≡ 2 → ⊥ =
    elim c.in_default.branch [ in_default-via-then-branch-lt2 w ↦ λ e. grind arith | in_default-via-else-branch-lt2+else-this-lt3+else-this-lt4 w ↦ λ e. grind arith ] in
    let three : length c.in_ok-items_in.field-0.now ≡ 3 → ⊥ =
    elim c.in_default.branch [ in_default-via-then-branch-lt2 w ↦ λ e. grind arith | in_default-via-else-branch-lt2+else-this-lt3+else-this-lt4 w ↦ λ e. grind arith ] in
    sym (ap (option_and_then reading_of_row) (sym c.in_ok-items_in.ensures) ∙ wrong_row c.in_ok-items_in.field-0.now two three)

pub returns-in-len2 : goal.returns-in-len2
returns-in-len2 c =
    c.usable_in.ensures ∙ ap (option_and_then reading_of_row) (ap Some (two_items c.in_ok-items_in.field-0.now c.at-item.result c.raw-item.result (omega arith) c.at-item.is c.raw-item.is) ∙ c.in_ok-items_in.ensures)

pub returns-in-len3 : goal.returns-in-len3
returns-in-len3 c =
    c.flagged_in.ensures
    ∙ ap (option_and_then reading_of_row) (ap Some (three_items c.in_ok-items_in.field-0.now c.at-item-then-this-lt4.result c.raw-item-then-this-lt4.result c.flag-item.result (omega arith) c.at-item-then-this-lt4.is c.raw-item-then-this-lt4.is c.flag-item.is) ∙ c.in_ok-items_in.ensures)
