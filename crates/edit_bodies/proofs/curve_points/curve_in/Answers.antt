use Rattle.std.proofs.Common.{◌≡◌, ℤ, List, [], ◌∷◌, length, Option, Some, option_and_then, sym, ap, ◌∙◌, arith}
use Rattle.edit_bodies.proofs.RowLemmas.{one_item, three_items, two_items, wrong_points}
use Rattle.edit_bodies.proofs.curve_points.curve_in.Goals as goal
use Rattle.edit_bodies.proofs.curve_points.curve_in.Goals.{in_default-via-then-branch-lt1, in_default-via-else-branch-lt1+else-this-lt2+else-this-lt3+else-this-lt4}
use Rattle.edit_bodies.specs.Grammars.{curve_if, each_of, point_of}
use Rattle.serde_json.specs.Data.{Items}

pub returns-in_default : goal.returns-in_default
returns-in_default c =
    let not_one : length c.in_ok-items_in.field-0.now ≡ 1 → ⊥ =
    elim c.in_default.branch [ in_default-via-then-branch-lt1 w ↦ λ e. grind arith | in_default-via-else-branch-lt1+else-this-lt2+else-this-lt3+else-this-lt4 w ↦ λ e. grind arith ] in
    let not_two : length c.in_ok-items_in.field-0.now ≡ 2 → ⊥ =
    elim c.in_default.branch [ in_default-via-then-branch-lt1 w ↦ λ e. grind arith | in_default-via-else-branch-lt1+else-this-lt2+else-this-lt3+else-this-lt4 w ↦ λ e. grind arith ] in
    let not_three : length c.in_ok-items_in.field-0.now ≡ 3 → ⊥ =
    elim c.in_default.branch [ in_default-via-then-branch-lt1 w ↦ λ e. grind arith | in_default-via-else-branch-lt1+else-this-lt2+else-this-lt3+else-this-lt4 w ↦ λ e. grind arith ] in
    sym (ap (λ (o : Option Items). option_and_then curve_if (option_and_then (each_of point_of) o)) (sym c.in_ok-items_in.ensures)
    ∙ wrong_points c.in_ok-items_in.field-0.now not_one not_two not_three)

-- what is read of the rows that are there
abbrev curve_of_rows : Option Items → Option (List (ℤ × ℤ))
curve_of_rows o = option_and_then curve_if (option_and_then (each_of point_of) o)

pub returns-in_err-point_in-in-len1 : goal.returns-in_err-point_in-in-len1
returns-in_err-point_in-in-len1 c =
    c.from_residual-in_err-point_in-in-len1.ensures ∙ ap (λ (p : Option (ℤ × ℤ)). option_and_then curve_if (option_and_then (λ x. Some (x ∷ [])) p)) c.in_err-point_in-in-len1.ensures
    ∙ ap curve_of_rows (ap Some (one_item c.in_ok-items_in.field-0.now c.first-item.result (omega arith) c.first-item.is) ∙ c.in_ok-items_in.ensures)

pub returns-in_ok-point_in-in-len1 : goal.returns-in_ok-point_in-in-len1
returns-in_ok-point_in-in-len1 c =
    c.curve_of.ensures ∙ ap (λ (p : Option (ℤ × ℤ)). option_and_then curve_if (option_and_then (λ x. Some (x ∷ [])) p)) c.in_ok-point_in-in-len1.ensures
    ∙ ap curve_of_rows (ap Some (one_item c.in_ok-items_in.field-0.now c.first-item.result (omega arith) c.first-item.is) ∙ c.in_ok-items_in.ensures)

pub returns-in-len2 : goal.returns-in-len2
returns-in-len2 c =
    c.curve_in_two.ensures
    ∙ ap curve_of_rows (ap Some (two_items c.in_ok-items_in.field-0.now c.first-item-then-this-lt3.result c.second-item.result (omega arith) c.first-item-then-this-lt3.is c.second-item.is) ∙ c.in_ok-items_in.ensures)

pub returns-in-len3 : goal.returns-in-len3
returns-in-len3 c =
    c.curve_in_three.ensures
    ∙ ap curve_of_rows (ap Some (three_items c.in_ok-items_in.field-0.now c.first-item-then-this-lt4.result c.second-item-then-this-lt4.result c.third-item.result (omega arith) c.first-item-then-this-lt4.is c.second-item-then-this-lt4.is c.third-item.is) ∙ c.in_ok-items_in.ensures)
