use Rattle.std.specs.Prelude.{◌≡◌, not, find, slice_get, None}
use Rattle.std.proofs.Common.{arith, ap}
use Rattle.std.proofs.lemmas.List.{length-set}
use Rattle.day_cells.specs.Spans.{days_of}
use Rattle.day_cells.specs.KeptDays.{KeptDays, waiting_of}
use Rattle.recompute.specs.Cells.{IsPlace}
use Rattle.recompute.proofs.ReplaceLemmas.{IsReplaced, pending_replaced, cells_replaced, keeps_replaced, takes_out, first_again, first_back}
use Rattle.recompute.proofs.cells.Cells.take_out.Goals as goal
use Rattle.recompute.proofs.cells.Cells.take_out.Goals.{After-take_out}

-- the cells of the station stand replaced by those that it has after the call
replaced : (c : After-take_out) → IsReplaced c.self.inside.stations.items c.args.site c.in-Ok.place c.index_mut.result.now c.take_out.new.self
replaced c =
    let here : IsPlace c.self.inside.stations.items c.args.site c.in-Ok.place = rw c.deref.ensures.value at c.in-Ok.ensures.found in
    record { rising = c.self.invariant.rising; here = here; was = c.index_mut.ensures.value; same = c.take_out.ensures.takes_out.site }

pub invariant_of-self : goal.invariant_of-self
invariant_of-self c =
    let stations = c.self.inside.stations.items in
    let place = c.in-Ok.place in
    let old = c.index_mut.result.now in
    let new = c.take_out.new.self in
    let h = replaced (goal.at.invariant_of-self c).After-take_out in
    let k = c.self.invariant in
    let span : days_of new.span ≡ days_of old.span = ap days_of c.take_out.ensures.takes_out.span in
    let e = ap (λ (s : KeptDays). days_of s.span) h.was in
    let most = k.spans place old h.here.within in
    let pending = pending_replaced _ _ _ _ _ h in
    let cells = cells_replaced _ _ _ _ _ h in
    let count = c.take_out.ensures.count in
    let was = k.pending_days in
    let had = k.kept_cells in
    let fw = k.within in
    let first = c.min-self-inside.ensures in
    let same = length-set stations place new in
    let within = rw c.deref-in-Ok.ensures.value at c.first_unclaimed-self-inside.ensures.within in
    let between = rw c.deref-in-Ok.ensures.value at c.first_unclaimed-self-inside.ensures.between in
    keeps_replaced _ _ _ _ _ h c.self.inside.pending c.self.inside.cells c.self.inside.first c.self.inside.unclaimed
    c.self.inside.pending c.self.inside.cells c.min-self-inside.result c.first_unclaimed-self-inside.result c.self.inside.empty k
    (omega (arith, span, e, most)) (omega (arith, pending, count, was)) (omega (arith, cells, span, had)) (omega (arith, fw, first))
    (first_back (λ (s : KeptDays). slice_get (waiting_of s) 0 ≡ None) stations place c.self.inside.first c.min-self-inside.result new k.before first)
    (omega (arith, within, same))
    (first_again (λ (s : KeptDays). find (λ w. not w.out) (waiting_of s) ≡ None) stations place c.self.inside.unclaimed c.min.result c.first_unclaimed-self-inside.result new k.unclaimed_before c.min.ensures between)

pub returns-in-Ok : goal.returns-in-Ok
returns-in-Ok c =
    let h = replaced (goal.at.returns-in-Ok c).After-take_out in
    rw (← c.self.view_is) (takes_out _ _ _ _ _ h c.args.day c.take_out.ensures.takes_out c.take_out.ensures.count)
