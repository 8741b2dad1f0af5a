use Rattle.std.proofs.Common.{sym, ◌∙◌}
use Rattle.daily_values.specs.declared.day_values.DayValue.TheVariants.{Empty}
use Rattle.day_cells.proofs.DayLemmas.{on_day_at}
use Rattle.day_cells.proofs.KeptLemmas.{outside}
use Rattle.day_cells.proofs.kept_days.DayCells.value.Goals as goal

pub returns-in-Some : goal.returns-in-Some
returns-in-Some c =
    let at = rw c.deref.ensures.value at c.in-Some.ensures.found in
    rw (← c.self.view_is)
    (c.get.ensures ∙ sym (on_day_at c.self.inside.start c.self.inside.values Empty c.args.day c.in-Some.place at.0))

pub returns-in-None : goal.returns-in-None
returns-in-None c =
    let h = c.self.invariant.columns in
    let out = rw c.deref.ensures.value at c.in-None.ensures.absent in
    rw (← c.self.view_is)
    (c.requires ∙ sym (outside c.self.inside.start c.self.inside.awaits.items c.self.inside.values Empty c.args.day (sym h.values) out))
