-- The parts of the window in a row.
use Rattle.std.specs.Prelude.{◌++◌, pos, ◌*◌, List, filter, option_to_list}
use Rattle.std.proofs.Common.{ap, ◌∙◌}
use Rattle.fixed_units.specs.declared.readings.Reading.{Reading}
use Rattle.readings.specs.Readings.{is_used}
use Rattle.readings.proofs.WindowParts.{window_items}
use Rattle.readings.proofs.lists.Readings.to_list.Goals as goal

pub returns : goal.returns
returns c =
    let w = c.window-window.result in
    c.in_ok-push_some-2.ensures
    ∙ ap (λ (l : List Reading). l ++ option_to_list w.after)
    (c.in_ok-push_used-2.ensures ∙ ap (λ (l : List Reading). l ++ filter is_used w.right.now)
    (c.in_ok-push_used.ensures ∙ ap (λ (l : List Reading). l ++ filter is_used w.left.now)
    (c.in_ok-push_some.ensures ∙ ap (λ (l : List Reading). l ++ option_to_list w.before) c.in_ok-list.ensures.items)))
    ∙ window_items c.args.a c.args.b (pos (60 * c.args.gap)) c.args.self.now.list w.left.now w.right.now w.before w.after
    c.window-window.ensures.before c.window-window.ensures.inner c.window-window.ensures.after
