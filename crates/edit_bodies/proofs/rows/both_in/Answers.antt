use Rattle.std.proofs.Common.{◌≡◌, length, Some, option_and_then, sym, ap, ◌∙◌, arith}
use Rattle.edit_bodies.proofs.RowLemmas.{two_items, wrong_pair}
use Rattle.edit_bodies.proofs.rows.both_in.Goals as goal
use Rattle.edit_bodies.proofs.rows.both_in.Goals.{in_default-via-then-branch-lt2, in_default-via-else-branch-lt2+else-this-lt3}
use Rattle.edit_bodies.specs.Grammars.{pair_in}

pub returns-in_default-clause-none : goal.returns-in_default-clause-none
returns-in_default-clause-none c =
    let other : length c.in_ok-items_in.field-0.now ≡ 2 → ⊥ =
    elim c.in_default.branch [ in_default-via-then-branch-lt2 w ↦ λ e. grind arith | in_default-via-else-branch-lt2+else-this-lt3 w ↦ λ e. grind arith ] in
    λ first second. sym (ap (option_and_then (pair_in first second)) (sym c.in_ok-items_in.ensures) ∙ wrong_pair first second c.in_ok-items_in.field-0.now other)

pub returns-clause-some : goal.returns-clause-some
returns-clause-some c =
    sym (ap Some (two_items c.in_ok-items_in.field-0.now c.first-item.result c.second-item.result (omega arith) c.first-item.is c.second-item.is) ∙ c.in_ok-items_in.ensures)
