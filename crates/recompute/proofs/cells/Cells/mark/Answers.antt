use Rattle.std.specs.Prelude.{◌≡◌, ◌+◌, ◌-◌, not, length, find, slice_get, count_by, is_none, Some, None, option_and_then}
use Rattle.std.proofs.Common.{arith, ap, sym, ◌∙◌, add-zero}
use Rattle.std.proofs.lemmas.List.{get_or-set_same}
use Rattle.day_cells.specs.Spans.{days_of}
use Rattle.day_cells.specs.KeptDays.{KeptDays, awaited_on, waiting_of}
use Rattle.recompute.specs.Cells.{station_of, awaited_in, waiting, IsPlace, IsGap}
use Rattle.recompute.proofs.ReplaceLemmas.{IsReplaced, pending_most, cells_most, fits_small, pending_part, cells_part, was_there, pending_replaced, cells_replaced, keeps_replaced, marks, no_room, marks_none, fresh_days, first_back}
use Rattle.recompute.proofs.cells.Cells.mark.Goals as goal
use Rattle.recompute.proofs.cells.Cells.mark.Goals.{After-mark}

-- the cells of the station stand replaced by those that it has after the call
replaced : (c : After-mark) → IsReplaced c.self.inside.stations.items c.args.site c.in-Ok.place c.index_mut.result.now c.mark.new.self
replaced c =
    let here : IsPlace c.self.inside.stations.items c.args.site c.in-Ok.place = rw c.deref.ensures.value at c.in-Ok.ensures.found in
    record { rising = c.self.invariant.rising; here = here; was = c.index_mut.ensures.value; same = c.mark.ensures.marks.site }

pub mark-requires-clause-room : goal.mark-requires-clause-room
mark-requires-clause-room c k d l =
    let stations = c.self.inside.stations.items in
    let place = c.in-Ok.place in
    let old = c.index_mut.result.now in
    let here : IsPlace stations c.args.site place = rw c.deref.ensures.value at c.in-Ok.ensures.found in
    let found : station_of stations c.args.site ≡ Some old = here.found old ∙ ap (λ s. Some s) (sym c.index_mut.ensures.value) in
    let room = rw (← c.self.view_is) at (c.requires.room k d l) in
    let room = rw found at room in
    room

pub overflow_sub-self : goal.overflow_sub-self
overflow_sub-self c =
    let stations = c.self.inside.stations.items in
    let place = c.in-Ok.place in
    let old = c.index_mut.result.now in
    let here : IsPlace stations c.args.site place = rw c.deref.ensures.value at c.in-Ok.ensures.found in
    let count = rw c.deref-in-Ok.ensures.value at c.pending_at-pending.ensures.count in
    let part = pending_part stations place old here.within in
    let was = c.self.invariant.pending_days in
    omega (arith, count old, part, was)

pub overflow_add-self : goal.overflow_add-self
overflow_add-self c =
    let most = pending_most c.self.inside.stations.items c.self.invariant.few in
    let kept = c.self.invariant.pending_days in
    let after = c.pending_at.ensures.most in
    fits_small (c.self.inside.pending - c.pending_at-pending.result + c.pending_at.result) (omega (arith, most, kept, after))

pub overflow_add-self-in-Ok : goal.overflow_add-self-in-Ok
overflow_add-self-in-Ok c =
    let most = cells_most c.self.inside.stations.items c.self.invariant.few c.self.invariant.spans in
    let kept = c.self.invariant.kept_cells in
    let after = c.cells_at.ensures.most in
    fits_small (c.self.inside.cells - c.cells_at-cells.result + c.cells_at.result) (omega (arith, most, kept, after))

pub invariant_of-self : goal.invariant_of-self
invariant_of-self c =
    let stations = c.self.inside.stations.items in
    let place = c.in-Ok.place in
    let old = c.index_mut.result.now in
    let new = c.mark.new.self in
    let h = replaced (goal.at.invariant_of-self c).After-mark in
    let k = c.self.invariant in
    let l = h.here.within in
    let e = ap (λ (s : KeptDays). days_of s.span) h.was in
    let e1 = ap (λ (s : KeptDays). length (waiting_of s)) h.was in
    let there = get_or-set_same stations place new new l in
    let s1 = ap (λ (s : KeptDays). days_of s.span) there in
    let w1 = ap (λ (s : KeptDays). length (waiting_of s)) there in
    let pending = pending_replaced _ _ _ _ _ h in
    let cells = cells_replaced _ _ _ _ _ h in
    let was = k.pending_days in
    let had = k.kept_cells in
    let fw = k.within in
    let uw = k.unclaimed_within in
    let first = c.min-self-inside.ensures in
    let unclaimed = c.min-self-inside-in-Ok.ensures in
    let p0 = rw c.deref-in-Ok.ensures.value at c.pending_at-pending.ensures.count in
    let c0 = rw c.deref-in-Ok-2.ensures.value at c.cells_at-cells.ensures.count in
    let p1 = rw c.deref-in-Ok-3.ensures.value at c.pending_at.ensures.count in
    let c1 = rw c.deref-in-Ok-4.ensures.value at c.cells_at.ensures.count in
    let m1 = c.cells_at.ensures.most in
    let part = pending_part stations place old l in
    let part1 = cells_part stations place old l in
    keeps_replaced _ _ _ _ _ h c.self.inside.pending c.self.inside.cells c.self.inside.first c.self.inside.unclaimed
    (c.self.inside.pending - c.pending_at-pending.result + c.pending_at.result) (c.self.inside.cells - c.cells_at-cells.result + c.cells_at.result)
    c.min-self-inside.result c.min-self-inside-in-Ok.result c.self.inside.empty k
    (omega (arith, c1 new, s1, m1)) (omega (arith, pending, was, p0 old, p1 new, e1, w1, part)) (omega (arith, cells, had, c0 old, c1 new, e, s1, part1))
    (omega (arith, fw, first))
    (first_back (λ (s : KeptDays). slice_get (waiting_of s) 0 ≡ None) stations place c.self.inside.first c.min-self-inside.result new k.before first)
    (omega (arith, uw, unclaimed))
    (first_back (λ (s : KeptDays). find (λ w. not w.out) (waiting_of s) ≡ None) stations place c.self.inside.unclaimed c.min-self-inside-in-Ok.result new k.unclaimed_before unclaimed)

pub returns-in-Ok-clause-marks : goal.returns-in-Ok-clause-marks
returns-in-Ok-clause-marks c =
    let h = replaced (goal.at.returns-in-Ok-clause-marks c).After-mark in
    rw (← c.self.view_is) (marks _ _ _ _ _ h c.args.changed.now c.args.edit c.requires.edit c.mark.ensures.marks c.mark.ensures.span)

pub returns-in-Ok-clause-pending : goal.returns-in-Ok-clause-pending
returns-in-Ok-clause-pending c =
    let h = replaced (goal.at.returns-in-Ok-clause-pending c).After-mark in
    let days = c.args.changed.now in
    let pending = pending_replaced _ _ _ _ _ h in
    let count = c.mark.ensures.count in
    let fresh = fresh_days c.index_mut.result.now days in
    let there = ap (λ o. count_by (λ d. is_none (option_and_then (λ s. awaited_on s d) o)) days) (was_there _ _ _ _ _ h) in
    rw (← c.self.view_is) (omega (arith, pending, count, fresh, there))

pub returns-in_default-clause-marks : goal.returns-in_default-clause-marks
returns-in_default-clause-marks c =
    let gap : IsGap c.args.self.now c.args.site _ = rw (c.deref.ensures.value, c.self.view_is) at c.in_default.ensures.absent in
    marks_none c.args.self.now c.args.site c.args.changed.now c.args.edit (no_room c.args.self.now c.args.site c.args.changed.now gap.none c.requires.room)

pub returns-in_default-clause-pending : goal.returns-in_default-clause-pending
returns-in_default-clause-pending c =
    let gap : IsGap c.args.self.now c.args.site _ = rw (c.deref.ensures.value, c.self.view_is) at c.in_default.ensures.absent in
    let none = no_room c.args.self.now c.args.site c.args.changed.now gap.none c.requires.room in
    sym (add-zero (length (waiting c.args.self.now))) ∙ ap (λ days. length (waiting c.args.self.now) + count_by (λ d. is_none (awaited_in c.args.self.now c.args.site d)) days) (sym none)
