-- A unit value is found where it passes, and left where it does not.
use Rattle.std.specs.Prelude.{◌≡◌, ◌<◌, List, length}
use Rattle.std.proofs.Common.{get_or, subst, sym, ◌∙◌}
use Rattle.fixed_units.specs.declared.readings.Reading.{Reading}
use Rattle.daily_values.specs.DayValue.{is_less, own_units, value_of}
use Rattle.daily_values.proofs.ExtremeLemmas.{is_best, find_here, find_next, best}
use Rattle.daily_values.proofs.from_scratch.find_greatest.Goals as goal

pub returns-then-is_greatest : goal.returns-then-is_greatest
returns-then-is_greatest c =
    let day = c.args.parts.now in
    let value = value_of c.args.quantity in
    let i = c.loop-reading.reading-index in
    let r = c.reading-item.result in
    let within = subst (λ (w : List Reading). i < length w) c.as_slice-reading-items.ensures c.loop-reading-test.true in
    let here = subst (λ (w : List Reading). r ≡ get_or w i r) c.as_slice-reading-items.ensures c.reading-item.is in
    find_here day (is_best value is_less (own_units day)) day.window i r c.unit_of-unit.result (best value is_less (own_units day)) within here c.unit_of-unit.ensures.unit
    (sym c.is_greatest.ensures ∙ c.if-is_greatest.true) c.loop-reading.invariant

pub loop-reading-preserved : goal.loop-reading-preserved
loop-reading-preserved c =
    let day = c.args.parts.now in
    let value = value_of c.args.quantity in
    let i = c.loop-reading.reading-index in
    let r = c.reading-item.result in
    let within = subst (λ (w : List Reading). i < length w) c.as_slice-reading-items.ensures c.loop-reading-test.true in
    let here = subst (λ (w : List Reading). r ≡ get_or w i r) c.as_slice-reading-items.ensures c.reading-item.is in
    find_next day (is_best value is_less (own_units day)) day.window i r c.unit_of-unit.result (best value is_less (own_units day)) within here c.unit_of-unit.ensures.unit
    (sym c.is_greatest.ensures ∙ c.if-is_greatest.false) c.loop-reading.invariant
