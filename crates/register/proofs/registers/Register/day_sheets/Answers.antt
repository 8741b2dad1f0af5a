-- Day after day a sheet is made, of the value that the cells keep.
use Rattle.std.specs.Prelude.{◌≡◌, ℕ, List, ℤ, true}
use Rattle.std.proofs.Common.{ap, ◌∙◌, to_z, w32}
use Rattle.depend.proofs.DayNumbers.{behind_the_way, first_number, on_the_way}
use Rattle.fixed_units.specs.Quantities.{SiteNumber}
use Rattle.daily_values.specs.declared.day_values.DayValue.{DayValue}
use Rattle.history.specs.Awaited.{value_at}
use Rattle.history.specs.Events.{Event}
use Rattle.records.specs.Sheets.{IsSheet}
use Rattle.register.proofs.ReviewLemmas.{cells_seen, made_after, made_are, made_first, made_last, value_seen, value_spanned}
use Rattle.sheets.specs.Sheets.{sheet}
use Rattle.register.proofs.registers.Register.day_sheets.Goals as goal

-- the text of the sheet of a day
abbrev text_at : List Event → SiteNumber → ℤ → List ℕ
text_at events site day = sheet site day (value_at events site day) true

pub loop-number-init : goal.loop-number-init
loop-number-init c =
    made_first (text_at c.args.self.now.history.events c.args.site) c.args.from c.args.to _ _
    (first_number c.args.from c.get-number.result c.get-number.ensures.range c.get-number.ensures.value) c.new-sheets.ensures

pub day_of-day-requires : goal.day_of-day-requires
day_of-day-requires c =
    (on_the_way c.args.from c.args.to _ _ c.get-number.ensures.range.low c.loop-number.invariant.low c.get-number-end.ensures.range c.get-number-end.ensures.value c.loop-number-test.true).day

pub loop-number-preserved : goal.loop-number-preserved
loop-number-preserved c =
    let number : ℤ = to_z w32 c.loop-number.number-bits in
    let way = on_the_way c.args.from c.args.to _ _ c.get-number.ensures.range.low c.loop-number.invariant.low c.get-number-end.ensures.range c.get-number-end.ensures.value c.loop-number-test.true in
    let tells = cells_seen _ c.args.self.now c.self.view_is c.self.invariant.cells_tell in
    let kept : c.value.result.now ≡ value_at c.args.self.now.history.events c.args.site number =
    value_seen _ c.args.self.now c.self.view_is c.args.site c.day_of-day.result number c.day_of-day.ensures c.value.result.now c.value.ensures
    ∙ value_spanned c.args.self.now.history.events c.args.self.now.cells tells c.args.site c.args.from c.args.to number way.day c.loop-number.invariant.low way.within
    c.requires.awaits_none in
    let text : c.in_ok-text.text ≡ text_at c.args.self.now.history.events c.args.site number =
    c.in_ok-text.ensures.text ∙ ap (λ (d : ℤ). sheet c.args.site d c.value.result.now true) c.day_of-day.ensures
    ∙ ap (λ (v : DayValue). sheet c.args.site number v true) kept in
    let size = c.in_ok-text.ensures.size in
    let fits : IsSheet c.in_ok-text.text = record { fewest = size.some; most = size.most } in
    made_after (text_at c.args.self.now.history.events c.args.site) c.args.from c.args.to number _ c.loop-number.sheets c.push.new.self c.in_ok-text.text way.within way.next text fits
    c.in_ok-push.ensures.ok c.loop-number.invariant

pub returns-clause-texts : goal.returns-clause-texts
returns-clause-texts c =
    let past = behind_the_way c.args.to _ _ c.get-number-end.ensures.range c.get-number-end.ensures.value c.loop-number-test.false in
    made_last (text_at c.args.self.now.history.events c.args.site) c.args.from c.args.to _ c.loop-number.sheets c.requires.span.begins c.requires.span.ends c.requires.span.ordered past c.loop-number.invariant

pub returns-clause-lawful : goal.returns-clause-lawful
returns-clause-lawful c =
    let past = behind_the_way c.args.to _ _ c.get-number-end.ensures.range c.get-number-end.ensures.value c.loop-number-test.false in
    made_are (text_at c.args.self.now.history.events c.args.site) c.args.from c.args.to _ c.loop-number.sheets c.requires.span.ordered past c.loop-number.invariant
