-- Day after day is added, from the first to the last.
use Rattle.std.proofs.Common.{◌≡◌, true, ◌∙◌, ap, sym, arith, rules, List, [], ◌∷◌, ◌++◌}
use Rattle.std.specs.Result.{is_ok}
use Rattle.std.proofs.lemmas.List.Elements.{All-nil, All-push, All-same}
use Rattle.std.proofs.lemmas.Int.{ints}
use Rattle.depend.proofs.DayNumbers.{behind_the_way, first_number, on_the_way}
use Rattle.fixed_units.specs.Quantities.{first_day}
use Rattle.table_writing.specs.Answers.{row_at}
use Rattle.table_writing.specs.Counted.{IsCountedOrNone}
use Rattle.table_writing.proofs.RowLemmas.{gathered_first, gathered_last, gathered_next}
use Rattle.water_year.specs.declared.rows.DailyRow.{DailyRow}
use Rattle.table_writing.proofs.rows.rows_from.Goals as goal

pub loop-number-init : goal.loop-number-init
loop-number-init g c =
    let none = c.reserve_exact.ensures.items ∙ c.new-rows.ensures.items in
    record {
      gathered = gathered_first (row_at c.args.office.now.register.history.events c.args.site) c.args.from c.args.to _ _ c.get-number.ensures.range
          (first_number c.args.from c.get-number.result c.get-number.ensures.range c.get-number.ensures.value) none;
      counted = λ has. All-same IsCountedOrNone _ [] none (All-nil IsCountedOrNone);
    }

pub row_on-requires-clause-day : goal.row_on-requires-clause-day
row_on-requires-clause-day g c =
    (on_the_way first_day c.args.to _ _ (omega (arith, ints)) c.loop-number.invariant.gathered.low c.get-number-end.ensures.range c.get-number-end.ensures.value c.loop-number-test.true).day

pub loop-number-preserved : goal.loop-number-preserved
loop-number-preserved g c =
    let kept = c.loop-number.invariant in
    let way = on_the_way first_day c.args.to _ _ (omega (arith, ints)) kept.gathered.low c.get-number-end.ensures.range c.get-number-end.ensures.value c.loop-number-test.true in
    let good : is_ok c.push.result ≡ true = search rules in
    let items = rw good at c.push.ensures.items in
    record {
      gathered = gathered_next (row_at c.args.office.now.register.history.events c.args.site) c.args.from c.args.to _ _ c.loop-number.rows.items c.push.new.self.items way.within way.next
          (items ∙ ap (λ (more : List DailyRow). c.loop-number.rows.items ++ more) (sym c.row_on.ensures.row)) kept.gathered;
      counted = λ has.
          All-same IsCountedOrNone c.push.new.self.items (c.loop-number.rows.items ++ c.row_on.result ∷ []) items
          (All-push IsCountedOrNone c.loop-number.rows.items c.row_on.result (kept.counted has) (c.row_on.ensures.counted has));
    }

pub returns-clause-rows : goal.returns-clause-rows
returns-clause-rows g c =
    gathered_last (row_at c.args.office.now.register.history.events c.args.site) c.args.from c.args.to _ c.loop-number.rows.items
    (behind_the_way c.args.to _ _ c.get-number-end.ensures.range c.get-number-end.ensures.value c.loop-number-test.false) c.loop-number.invariant.gathered

pub returns-clause-counted : goal.returns-clause-counted
returns-clause-counted g c = c.loop-number.invariant.counted
