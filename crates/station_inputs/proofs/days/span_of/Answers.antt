-- The neighbours stand at the ends, where there are any.
use Rattle.std.specs.Prelude.{List, ◌++◌, find, reverse}
use Rattle.std.proofs.Common.{ap, sym, ◌∙◌}
use Rattle.fixed_units.specs.declared.readings.Reading.{Reading}
use Rattle.readings.specs.Readings.{is_used}
use Rattle.station_inputs.proofs.SpanLemmas.{ends_agree_back}
use Rattle.station_inputs.proofs.WindowSpans.{span_found, no_span_found}
use Rattle.station_inputs.proofs.days.span_of.Goals as goal

pub returns-in_err-first : goal.returns-in_err-first
returns-in_err-first c =
    let day : List Reading = c.args.window.now.left.now ++ c.args.window.now.right.now in
    c.from_residual.ensures
    ∙ no_span_found c.args.window.now.before c.args.window.now.after day (sym (c.first_used.ensures ∙ ap (find is_used) c.day-day.ensures) ∙ c.in_err-first.was)

pub returns-in_err-last : goal.returns-in_err-last
returns-in_err-last c =
    let day : List Reading = c.args.window.now.left.now ++ c.args.window.now.right.now in
    absurd (ends_agree_back day c.in_ok-first.first (sym (c.first_used.ensures ∙ ap (find is_used) c.day-day.ensures) ∙ c.in_ok-first.was)
    (sym (c.last_used.ensures ∙ ap (λ (rs : List Reading). find is_used (reverse rs)) c.day-day.ensures) ∙ c.in_err-last.was))

pub returns : goal.returns
returns c =
    let day : List Reading = c.args.window.now.left.now ++ c.args.window.now.right.now in
    span_found c.args.window.now.before c.args.window.now.after day c.in_ok-first.first c.in_ok-last.last c.unwrap_or.result c.unwrap_or-2.result
    (sym (c.first_used.ensures ∙ ap (find is_used) c.day-day.ensures) ∙ c.in_ok-first.was)
    (sym (c.last_used.ensures ∙ ap (λ (rs : List Reading). find is_used (reverse rs)) c.day-day.ensures) ∙ c.in_ok-last.was)
    c.unwrap_or.ensures c.unwrap_or-2.ensures
