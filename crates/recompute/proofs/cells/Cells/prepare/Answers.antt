use Rattle.std.specs.Prelude.{◌≡◌, ◌<◌, not, List, length, set, find, slice_get, Some, None, ℤ}
use Rattle.std.proofs.Common.{arith, ap, ◌∙◌}
use Rattle.day_cells.specs.Spans.{days_of}
use Rattle.day_cells.specs.KeptDays.{KeptDays, waiting_of}
use Rattle.recompute.specs.Cells.{station_of, HasRoom, most_stations, IsPlace, IsGap}
use Rattle.recompute.proofs.ReplaceLemmas.{IsReplaced, is_there, pending_replaced, cells_replaced, keeps_replaced, same_replaced, IsAdded, added_there, same_added, keeps_added, kept_set}
use Rattle.std.specs.Prelude.{Result, Ok, Err, OnOk}
use Rattle.fixed_units.specs.Quantities.{SiteNumber}
use Rattle.fixed_units.specs.declared.texts.NoMemory.{NoMemory}
use Rattle.day_cells.specs.KeptDays as station
use Rattle.recompute.proofs.cells.Cells.prepare.Goals as goal
use Rattle.recompute.proofs.cells.Cells.prepare.Goals.{After-prepare, In_ok-station-in-Err}

-- the cells of the station stand replaced by those that it has after the call
replaced : (c : After-prepare) → IsReplaced c.self.inside.stations.items c.args.site c.in-Ok.place c.index_mut.result.now c.prepare.new.self
replaced c =
    let here : IsPlace c.self.inside.stations.items c.args.site c.in-Ok.place = rw c.deref.ensures.value at c.in-Ok.ensures.found in
    record { rising = c.self.invariant.rising; here = here; was = c.index_mut.ensures.value; same = c.prepare.ensures.same.site }

pub invariant_of-self : goal.invariant_of-self
invariant_of-self c =
    let stations = c.self.inside.stations.items in
    let place = c.in-Ok.place in
    let old = c.index_mut.result.now in
    let new = c.prepare.new.self in
    let h = replaced (goal.at.invariant_of-self c).After-prepare in
    let k = c.self.invariant in
    let span : days_of new.span ≡ days_of old.span = ap days_of c.prepare.ensures.same.span in
    let e = ap (λ (s : KeptDays). days_of s.span) h.was in
    let most = k.spans place old h.here.within in
    let pending = pending_replaced _ _ _ _ _ h in
    let cells = cells_replaced _ _ _ _ _ h in
    let count = ap length c.prepare.ensures.waiting in
    let w = c.prepare.ensures.waiting in
    let was = k.pending_days in
    let had = k.kept_cells in
    let fw = k.within in
    let uw = k.unclaimed_within in
    keeps_replaced _ _ _ _ _ h c.self.inside.pending c.self.inside.cells c.self.inside.first c.self.inside.unclaimed
    c.self.inside.pending c.self.inside.cells c.self.inside.first c.self.inside.unclaimed c.self.inside.empty k
    (omega (arith, span, e, most)) (omega (arith, pending, count, was)) (omega (arith, cells, span, had)) fw
    (kept_set (λ (s : KeptDays). slice_get (waiting_of s) 0 ≡ None) stations place c.self.inside.first old new h.here.within h.was (λ q. ap (λ ws. slice_get ws 0) w ∙ q) k.before) uw
    (kept_set (λ (s : KeptDays). find (λ w. not w.out) (waiting_of s) ≡ None) stations place c.self.inside.unclaimed old new h.here.within h.was (λ q. ap (find (λ v. not v.out)) w ∙ q) k.unclaimed_before)

pub returns-in-Ok-clause-same : goal.returns-in-Ok-clause-same
returns-in-Ok-clause-same c =
    let h = replaced (goal.at.returns-in-Ok-clause-same c).After-prepare in
    rw (← c.self.view_is) (same_replaced _ _ _ _ _ h c.prepare.ensures.same c.prepare.ensures.waiting)

room_there : (r : Result (Unit {0}) NoMemory) (stations : List KeptDays) (site : SiteNumber) (new : KeptDays) (days : List ℤ) → station_of stations site ≡ Some new
    → OnOk r (station.HasRoom new days) → OnOk r (HasRoom stations site days)
room_there (Ok x) stations site new days e h = λ k d l. rw e (h k d l)
room_there (Err x) stations site new days e h = h

pub returns-in-Ok-clause-room : goal.returns-in-Ok-clause-room
returns-in-Ok-clause-room c =
    let h = replaced (goal.at.returns-in-Ok-clause-room c).After-prepare in
    room_there c.prepare.result (set c.self.inside.stations.items c.in-Ok.place c.prepare.new.self) c.args.site c.prepare.new.self c.args.changed.now (is_there _ _ _ _ _ h) c.prepare.ensures.room

-- a station without pending days is added in the gap
added : (c : In_ok-station-in-Err) → IsAdded c.self.inside.stations.items c.args.site c.in-Err.place c.in_ok-station-in-Err.station
added c =
    let gap : IsGap c.self.inside.stations.items c.args.site c.in-Err.place = rw c.deref.ensures.value at c.in-Err.ensures.absent in
    let new = c.in_ok-station-in-Err.ensures in
    record { rising = c.self.invariant.rising; gap = gap; site_is = new.same.site; start = c.in-Some.day.now; says = new.same; none = new.waiting }

pub returns-in_ok-insert-in-Err-clause-same : goal.returns-in_ok-insert-in-Err-clause-same
returns-in_ok-insert-in-Err-clause-same c =
    let h = added (goal.at.returns-in_ok-insert-in-Err-clause-same c).In_ok-station-in-Err in
    let items = c.in_ok-insert-in-Err.ensures.items in
    rw (← c.self.view_is, items) (same_added _ _ _ _ h)

pub returns-in_ok-insert-in-Err-clause-room : goal.returns-in_ok-insert-in-Err-clause-room
returns-in_ok-insert-in-Err-clause-room c k d l =
    let h = added (goal.at.returns-in_ok-insert-in-Err-clause-room c).In_ok-station-in-Err in
    let items = c.in_ok-insert-in-Err.ensures.items in
    let there = added_there _ _ _ _ h in
    rw (items, there) (c.in_ok-station-in-Err.ensures.room k d l)

pub invariant_of-self-in-Err : goal.invariant_of-self-in-Err
invariant_of-self-in-Err c =
    let h = added (goal.at.invariant_of-self-in-Err c).In_ok-station-in-Err in
    let items = c.in_ok-insert-in-Err.ensures.items in
    let few : length c.self.inside.stations.items < most_stations = (let a = ap length c.deref.ensures.value in let b = c.deref.ensures.len in let e = c.len.ensures in let f = c.if-len-ge-MOST_STATIONS.false in omega (arith, a, b, e, f)) in
    rw items (keeps_added _ _ _ _ h c.self.inside.pending c.self.inside.cells c.self.inside.first c.self.inside.unclaimed
    c.min-self-inside.result c.min-self-inside-in-Err.result c.self.inside.empty c.self.invariant few c.min-self-inside.ensures c.min-self-inside-in-Err.ensures)
