use Rattle.recompute.specs.Cells.{IsPlace}
use Rattle.recompute.proofs.ReplaceLemmas.{count_there, count_part}
use Rattle.recompute.proofs.cells.Cells.count_of.Goals as goal

pub returns-in-Ok-clause-value : goal.returns-in-Ok-clause-value
returns-in-Ok-clause-value c =
    let stations = c.self.inside.stations.items in
    let here : IsPlace stations c.args.site c.in-Ok.place = rw c.deref.ensures.value at c.in-Ok.ensures.found in
    let count = rw c.deref-in-Ok.ensures.value at c.cells_at.ensures.count in
    rw (← c.self.view_is) (count_there stations c.args.site c.in-Ok.place c.cells_at.result here count)

pub returns-in-Ok-clause-part : goal.returns-in-Ok-clause-part
returns-in-Ok-clause-part c =
    let stations = c.self.inside.stations.items in
    let here : IsPlace stations c.args.site c.in-Ok.place = rw c.deref.ensures.value at c.in-Ok.ensures.found in
    let count = rw c.deref-in-Ok.ensures.value at c.cells_at.ensures.count in
    rw (← c.self.view_is) (count_part stations c.args.site c.in-Ok.place c.cells_at.result here count)
