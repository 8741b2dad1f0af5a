-- Without a used reading the window is empty, and else a row.
use Rattle.std.specs.Prelude.{List, find}
use Rattle.std.proofs.Common.{ap, sym, ◌∙◌}
use Rattle.fixed_units.specs.declared.readings.Reading.{Reading}
use Rattle.readings.specs.Readings.{is_used}
use Rattle.readings.specs.Equality.{same_readings}
use Rattle.readings.proofs.EqualityLemmas.{none_left}
use Rattle.readings.proofs.WindowParts.{row_used, row_unused}
use Rattle.readings.proofs.equality.window_is.Goals as goal

pub returns-in_default : goal.returns-in_default
returns-in_default c =
    let w = c.args.window.now in
    c.is_empty.ensures ∙ none_left c.args.list.now
    ∙ ap (λ (l : List Reading). same_readings l c.args.list.now)
    (sym (row_unused w.before w.after w.left.now w.right.now (c.in_default.ensures ∙ ap (find is_used) c.day.ensures)))

pub returns : goal.returns
returns c =
    let w = c.args.window.now in
    c.is_line.ensures
    ∙ ap (λ (l : List Reading). same_readings l c.args.list.now)
    (sym (row_used w.before w.after w.left.now w.right.now c.in-Some.field-0 (c.in-Some.ensures ∙ ap (find is_used) c.day.ensures)))
