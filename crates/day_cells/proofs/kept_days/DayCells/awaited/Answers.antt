use Rattle.std.specs.Prelude.{◌≡◌, ℕ, Some}
use Rattle.std.proofs.Common.{arith, refl, ap, sym, ◌∙◌, get_or}
use Rattle.std.proofs.lemmas.List.{get_or_default}
use Rattle.day_cells.specs.KeptDays.{edit_of}
use Rattle.day_cells.proofs.DayLemmas.{on_day_at}
use Rattle.day_cells.proofs.KeptLemmas.{outside}
use Rattle.day_cells.proofs.kept_days.DayCells.awaited.Goals as goal

edit_of_some : (n : ℕ) → (n ≡ 0 → ⊥) → edit_of n ≡ Some n
edit_of_some n h = grind arith

pub returns-in_err-place : goal.returns-in_err-place
returns-in_err-place c =
    let out = rw c.deref.ensures.value at c.in_err-place.ensures.absent in
    rw (← c.self.view_is)
    (c.from_residual.ensures ∙ sym (ap edit_of (outside c.self.inside.start c.self.inside.awaits.items c.self.inside.awaits.items 0 c.args.day refl out)))

pub returns-then-edit-eq0 : goal.returns-then-edit-eq0
returns-then-edit-eq0 c =
    let at = rw c.deref.ensures.value at c.in_ok-place.ensures.found in
    let read : c.index-edit.result.now ≡ get_or c.self.inside.awaits.items c.in_ok-place.place 0 =
    c.index-edit.ensures ∙ get_or_default c.self.inside.awaits.items c.in_ok-place.place c.index-edit.result.now 0 at.1 in
    let says = on_day_at c.self.inside.start c.self.inside.awaits.items 0 c.args.day c.in_ok-place.place at.0 in
    rw (← c.self.view_is) (sym (ap edit_of (says ∙ sym read ∙ c.if-edit-eq0.true)))

pub returns-else-edit-eq0 : goal.returns-else-edit-eq0
returns-else-edit-eq0 c =
    let at = rw c.deref.ensures.value at c.in_ok-place.ensures.found in
    let read : c.index-edit.result.now ≡ get_or c.self.inside.awaits.items c.in_ok-place.place 0 =
    c.index-edit.ensures ∙ get_or_default c.self.inside.awaits.items c.in_ok-place.place c.index-edit.result.now 0 at.1 in
    let says = on_day_at c.self.inside.start c.self.inside.awaits.items 0 c.args.day c.in_ok-place.place at.0 in
    rw (← c.self.view_is) (sym (ap edit_of (says ∙ sym read) ∙ edit_of_some c.index-edit.result.now c.if-edit-eq0.false))
