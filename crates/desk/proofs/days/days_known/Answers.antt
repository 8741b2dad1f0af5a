-- Day after day is added, from the first to the last.
use Rattle.std.specs.Prelude.{◌≡◌, map, true}
use Rattle.std.proofs.Common.{◌∙◌, ap, sym, arith, rules, List, [], ◌∷◌, ◌++◌}
use Rattle.std.specs.Result.{is_ok}
use Rattle.std.proofs.lemmas.List.{map-append}
use Rattle.std.proofs.lemmas.Int.{ints}
use Rattle.depend.proofs.DayNumbers.{behind_the_way, first_number, on_the_way}
use Rattle.fixed_units.specs.Quantities.{first_day}
use Rattle.desk.specs.Replies.{row_at}
use Rattle.http_api.specs.Tables.{Row, row_of}
use Rattle.desk.proofs.DailyLemmas.{gathered_after, gathered_first, gathered_last}
use Rattle.desk.proofs.days.days_known.Goals as goal

pub loop-number-init : goal.loop-number-init
loop-number-init g c =
    gathered_first (row_at c.args.office.now.register.history.events c.args.site) c.args.from c.args.to _ _ c.get-number.ensures.range
    (first_number c.args.from c.get-number.result c.get-number.ensures.range c.get-number.ensures.value)
    (ap (map row_of) (c.reserve_exact.ensures.items ∙ c.new-days.ensures.items))

pub known_on-requires-clause-day : goal.known_on-requires-clause-day
known_on-requires-clause-day g c =
    (on_the_way first_day c.args.to _ _ (omega (arith, ints)) c.loop-number.invariant.low c.get-number-end.ensures.range c.get-number-end.ensures.value c.loop-number-test.true).day

pub loop-number-preserved : goal.loop-number-preserved
loop-number-preserved g c =
    let way = on_the_way first_day c.args.to _ _ (omega (arith, ints)) c.loop-number.invariant.low c.get-number-end.ensures.range c.get-number-end.ensures.value c.loop-number-test.true in
    let good : is_ok c.push.result ≡ true = search rules in
    let items = rw good at c.push.ensures.items in
    let rows = map row_of c.loop-number.days.items in
    gathered_after (row_at c.args.office.now.register.history.events c.args.site) c.args.from c.args.to _ _ rows (map row_of c.push.new.self.items) way.within way.next
    (ap (map row_of) items ∙ map-append row_of c.loop-number.days.items (c.known_on.result ∷ []) ∙ ap (λ (more : List Row). rows ++ more) (sym c.known_on.ensures))
    c.loop-number.invariant

pub returns : goal.returns
returns g c =
    gathered_last (row_at c.args.office.now.register.history.events c.args.site) c.args.from c.args.to _ (map row_of c.loop-number.days.items)
    (behind_the_way c.args.to _ _ c.get-number-end.ensures.range c.get-number-end.ensures.value c.loop-number-test.false) c.loop-number.invariant
