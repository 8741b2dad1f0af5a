use Rattle.std.specs.Prelude.{◌≡◌, ◌-◌, not, length, find, slice_get, None}
use Rattle.std.proofs.Common.{arith, ap}
use Rattle.std.proofs.lemmas.List.{length-set}
use Rattle.day_cells.specs.Spans.{days_of}
use Rattle.day_cells.specs.KeptDays.{KeptDays, waiting_of}
use Rattle.recompute.specs.Cells.{IsPlace}
use Rattle.recompute.proofs.ReplaceLemmas.{IsReplaced, pending_part, pending_replaced, cells_replaced, keeps_replaced, publishes, first_again}
use Rattle.recompute.proofs.cells.Cells.put_value.Goals as goal
use Rattle.recompute.proofs.cells.Cells.put_value.Goals.{After-publish}

-- the cells of the station stand replaced by those that it has after the call
replaced : (c : After-publish) → IsReplaced c.self.inside.stations.items c.args.site c.in-Ok.place c.index_mut.result.now c.publish.new.self
replaced c =
    let here : IsPlace c.self.inside.stations.items c.args.site c.in-Ok.place = rw c.deref.ensures.value at c.in-Ok.ensures.found in
    record { rising = c.self.invariant.rising; here = here; was = c.index_mut.ensures.value; same = c.publish.ensures.publishes.site }

pub overflow_sub-self : goal.overflow_sub-self
overflow_sub-self c =
    let h = replaced (goal.at.overflow_sub-self c).After-publish in
    let pending = pending_replaced _ _ _ _ _ h in
    let count = c.publish.ensures.count in
    let part = pending_part c.self.inside.stations.items c.in-Ok.place c.index_mut.result.now h.here.within in
    let e = ap (λ (s : KeptDays). length (waiting_of s)) h.was in
    let was = c.self.invariant.pending_days in
    omega (arith, pending, count, was, part, e)

pub invariant_of-self : goal.invariant_of-self
invariant_of-self c =
    let stations = c.self.inside.stations.items in
    let place = c.in-Ok.place in
    let old = c.index_mut.result.now in
    let new = c.publish.new.self in
    let h = replaced (goal.at.invariant_of-self c).After-publish in
    let k = c.self.invariant in
    let span : days_of new.span ≡ days_of old.span = ap days_of c.publish.ensures.publishes.span in
    let e = ap (λ (s : KeptDays). days_of s.span) h.was in
    let most = k.spans place old h.here.within in
    let pending = pending_replaced _ _ _ _ _ h in
    let cells = cells_replaced _ _ _ _ _ h in
    let count = c.publish.ensures.count in
    let was = k.pending_days in
    let had = k.kept_cells in
    let same = length-set stations place new in
    let within1 = rw c.deref-in-Ok.ensures.value at c.first_pending-self-inside.ensures.within in
    let between1 = rw c.deref-in-Ok.ensures.value at c.first_pending-self-inside.ensures.between in
    let within = rw c.deref-in-Ok-2.ensures.value at c.first_unclaimed-self-inside.ensures.within in
    let between = rw c.deref-in-Ok-2.ensures.value at c.first_unclaimed-self-inside.ensures.between in
    keeps_replaced _ _ _ _ _ h c.self.inside.pending c.self.inside.cells c.self.inside.first c.self.inside.unclaimed
    (c.self.inside.pending - 1) c.self.inside.cells c.first_pending-self-inside.result c.first_unclaimed-self-inside.result c.self.inside.empty k
    (omega (arith, span, e, most)) (omega (arith, pending, count, was)) (omega (arith, cells, span, had))
    (omega (arith, within1, same))
    (first_again (λ (s : KeptDays). slice_get (waiting_of s) 0 ≡ None) stations place c.self.inside.first c.min.result c.first_pending-self-inside.result new k.before c.min.ensures between1)
    (omega (arith, within, same))
    (first_again (λ (s : KeptDays). find (λ w. not w.out) (waiting_of s) ≡ None) stations place c.self.inside.unclaimed c.min-in-Ok.result c.first_unclaimed-self-inside.result new k.unclaimed_before c.min-in-Ok.ensures between)

pub returns-in-Ok : goal.returns-in-Ok
returns-in-Ok c =
    let h = replaced (goal.at.returns-in-Ok c).After-publish in
    rw (← c.self.view_is) (publishes _ _ _ _ _ h c.args.day c.args.value c.publish.ensures.publishes c.publish.ensures.count)
