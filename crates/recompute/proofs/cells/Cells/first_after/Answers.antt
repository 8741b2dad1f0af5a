use Rattle.std.specs.Prelude.{◌+◌, Some}
use Rattle.std.proofs.Common.{sym, ◌∙◌}
use Rattle.std.proofs.lemmas.List.{take_rest}
use Rattle.recompute.specs.Cells.{IsPlace, IsGap, is_behind}
use Rattle.recompute.proofs.AfterLemmas.{after_gap, found_there, found_later}
use Rattle.recompute.proofs.FoundLemmas.{found_awaits}
use Rattle.recompute.proofs.cells.Cells.first_after.Goals as goal

pub returns-in-Some-clause-first : goal.returns-in-Some-clause-first
returns-in-Some-clause-first c =
    let stations = c.self.inside.stations.items in
    let here : IsPlace stations c.args.site c.in-Ok.place = rw c.deref.ensures.value at c.in-Ok.ensures.found in
    rw (← c.self.view_is)
    (sym (found_there c.args.site c.args.day stations c.in-Ok.place c.index.result.now c.in-Some.waiting here c.index.ensures (sym c.first_after.ensures ∙ c.in-Some.is)))

pub returns-in-None-clause-first : goal.returns-in-None-clause-first
returns-in-None-clause-first c =
    let stations = c.self.inside.stations.items in
    let here : IsPlace stations c.args.site c.in-Ok.place = rw c.deref.ensures.value at c.in-Ok.ensures.found in
    let late = rw (c.deref-in-None.ensures.value, take_rest stations (c.in-Ok.place + 1)) at c.first_in.ensures in
    rw (← c.self.view_is)
    (late ∙ sym (found_later c.args.site c.args.day stations c.in-Ok.place c.index.result.now here c.index.ensures (sym c.first_after.ensures ∙ c.in-None.is)))

pub returns-in-Err-clause-first : goal.returns-in-Err-clause-first
returns-in-Err-clause-first c =
    let stations = c.self.inside.stations.items in
    let gap : IsGap stations c.args.site c.in-Err.place = rw c.deref.ensures.value at c.in-Err.ensures.absent in
    let late = rw (c.deref-in-Err.ensures.value, take_rest stations c.in-Err.place) at c.first_in-in-Err.ensures in
    rw (← c.self.view_is) (late ∙ sym (after_gap c.args.site c.args.day stations c.in-Err.place gap))

pub returns-in-Some-clause-awaits : goal.returns-in-Some-clause-awaits
returns-in-Some-clause-awaits c =
    let stations = c.self.inside.stations.items in
    let here : IsPlace stations c.args.site c.in-Ok.place = rw c.deref.ensures.value at c.in-Ok.ensures.found in
    rw (← c.self.view_is)
    (found_awaits (Some c.in-Some.waiting) (is_behind c.args.site c.args.day) stations c.self.invariant.rising
    (sym (found_there c.args.site c.args.day stations c.in-Ok.place c.index.result.now c.in-Some.waiting here c.index.ensures (sym c.first_after.ensures ∙ c.in-Some.is))))

pub returns-in-None-clause-awaits : goal.returns-in-None-clause-awaits
returns-in-None-clause-awaits c =
    let stations = c.self.inside.stations.items in
    let here : IsPlace stations c.args.site c.in-Ok.place = rw c.deref.ensures.value at c.in-Ok.ensures.found in
    let late = rw (c.deref-in-None.ensures.value, take_rest stations (c.in-Ok.place + 1)) at c.first_in.ensures in
    rw (← c.self.view_is)
    (found_awaits c.first_in.result (is_behind c.args.site c.args.day) stations c.self.invariant.rising
    (late ∙ sym (found_later c.args.site c.args.day stations c.in-Ok.place c.index.result.now here c.index.ensures (sym c.first_after.ensures ∙ c.in-None.is))))

pub returns-in-Err-clause-awaits : goal.returns-in-Err-clause-awaits
returns-in-Err-clause-awaits c =
    let stations = c.self.inside.stations.items in
    let gap : IsGap stations c.args.site c.in-Err.place = rw c.deref.ensures.value at c.in-Err.ensures.absent in
    let late = rw (c.deref-in-Err.ensures.value, take_rest stations c.in-Err.place) at c.first_in-in-Err.ensures in
    rw (← c.self.view_is)
    (found_awaits c.first_in-in-Err.result (is_behind c.args.site c.args.day) stations c.self.invariant.rising
    (late ∙ sym (after_gap c.args.site c.args.day stations c.in-Err.place gap)))
