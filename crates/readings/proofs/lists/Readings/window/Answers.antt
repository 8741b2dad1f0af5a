-- The readings about the day give what the whole list gives, where the day has a used reading.
use Rattle.std.specs.Prelude.{pos, ◌*◌, ◌≤ℤ◌, Some, None}
use Rattle.std.proofs.Common.{ap, refl, sym, subst, ◌∙◌}
use Rattle.readings.specs.Halves.{joined}
use Rattle.readings.specs.Readings.{IsRising, before_instant, from_instant}
use Rattle.readings.specs.Window.{of_day, inner, neighbour_before, neighbour_after}
use Rattle.readings.proofs.Altering.{day_order}
use Rattle.readings.proofs.WindowParts.{own_used, if_used, if_unused, window_joined}
use Rattle.readings.proofs.lists.Readings.window.Goals as goal

pub returns-in_default-clause-before : goal.returns-in_default-clause-before
returns-in_default-clause-before c =
    let rs = c.args.self.now.list in
    sym
    (if_unused (joined c.parts-parts.result.day) (inner c.args.a c.args.b rs) (neighbour_before c.args.a (pos (60 * c.args.gap)) rs) c.in_default.ensures
    (own_used c.args.a c.args.b rs _ _ c.parts-parts.ensures.day c.halves.ensures.list))

pub returns-in_default-clause-after : goal.returns-in_default-clause-after
returns-in_default-clause-after c =
    let rs = c.args.self.now.list in
    sym
    (if_unused (joined c.parts-parts.result.day) (inner c.args.a c.args.b rs) (neighbour_after c.args.b (pos (60 * c.args.gap)) rs) c.in_default.ensures
    (own_used c.args.a c.args.b rs _ _ c.parts-parts.ensures.day c.halves.ensures.list))

pub returns-clause-before : goal.returns-clause-before
returns-clause-before c =
    let rs = c.args.self.now.list in
    let rising : IsRising rs = subst IsRising c.halves.ensures.list c.halves.ensures.rising in
    let before = c.neighbour_before.ensures rs rising (c.parts-parts.ensures.before ∙ ap (before_instant c.args.a) c.halves.ensures.list) in
    before
    ∙ sym (if_used (joined c.parts-parts.result.day) (inner c.args.a c.args.b rs) c.in-Some.field-0 (neighbour_before c.args.a (pos (60 * c.args.gap)) rs)
    c.in-Some.ensures (own_used c.args.a c.args.b rs _ _ c.parts-parts.ensures.day c.halves.ensures.list))

pub returns-clause-after : goal.returns-clause-after
returns-clause-after c =
    let rs = c.args.self.now.list in
    let day = joined c.parts-parts.result.day in
    let order : c.args.a ≤ℤ c.args.b =
    day_order c.args.a c.args.b (joined c.halves.result) day (Some c.in-Some.field-0) refl c.in-Some.ensures c.parts-parts.ensures.day in
    let rising : IsRising rs = subst IsRising c.halves.ensures.list c.halves.ensures.rising in
    c.neighbour_after.ensures rs rising (c.parts-parts.ensures.behind order ∙ ap (from_instant c.args.b) c.halves.ensures.list)
    ∙ sym (if_used day (inner c.args.a c.args.b rs) c.in-Some.field-0 (neighbour_after c.args.b (pos (60 * c.args.gap)) rs) c.in-Some.ensures
    (own_used c.args.a c.args.b rs _ _ c.parts-parts.ensures.day c.halves.ensures.list))

pub returns-in_default-clause-joined : goal.returns-in_default-clause-joined
returns-in_default-clause-joined c =
    let day = c.parts-parts.result.day in
    window_joined c.args.a c.args.b (pos (60 * c.args.gap)) c.args.self.now.list day.left.now day.right.now None None
    (returns-in_default-clause-before c) (c.parts-parts.ensures.day ∙ ap (of_day c.args.a c.args.b) c.halves.ensures.list)
    (returns-in_default-clause-after c)

pub returns-clause-joined : goal.returns-clause-joined
returns-clause-joined c =
    let day = c.parts-parts.result.day in
    window_joined c.args.a c.args.b (pos (60 * c.args.gap)) c.args.self.now.list day.left.now day.right.now c.neighbour_before.result
    c.neighbour_after.result (returns-clause-before c) (c.parts-parts.ensures.day ∙ ap (of_day c.args.a c.args.b) c.halves.ensures.list)
    (returns-clause-after c)
