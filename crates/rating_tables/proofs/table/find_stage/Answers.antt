-- The discharge lies from the one row up to the other.
use Rattle.std.proofs.Common.{◌∙◌, arith}
use Rattle.std.proofs.lemmas.Int.{ints}
use Rattle.rising.proofs.Parting.{before_place, from_place}
use Rattle.rating_tables.specs.Table.{discharge_in}
use Rattle.rating_tables.proofs.table.find_stage.Goals as goal

pub line_between-requires-clause-rising : goal.line_between-requires-clause-rising
line_between-requires-clause-rising c =
    let low = before_place discharge_in c.args.discharge _ _ _ c.in_ok-row.row.now (c.split_at.ensures.front ∙ c.count_short.ensures.front) c.in_ok-row.ensures.value in
    let high = from_place discharge_in c.args.discharge _ _ _ c.in_ok-next.next.now (c.split_at.ensures.back ∙ c.count_short.ensures.back) c.in_ok-next.ensures.value in
    rw (c.turned.ensures, c.turned-2.ensures) (omega (arith, ints, low, high))

pub line_between-requires-clause-first : goal.line_between-requires-clause-first
line_between-requires-clause-first c =
    let low = before_place discharge_in c.args.discharge _ _ _ c.in_ok-row.row.now (c.split_at.ensures.front ∙ c.count_short.ensures.front) c.in_ok-row.ensures.value in
    rw c.turned.ensures (omega (arith, ints, low))

pub line_between-requires-clause-last : goal.line_between-requires-clause-last
line_between-requires-clause-last c =
    let high = from_place discharge_in c.args.discharge _ _ _ c.in_ok-next.next.now (c.split_at.ensures.back ∙ c.count_short.ensures.back) c.in_ok-next.ensures.value in
    rw c.turned-2.ensures (omega (arith, ints, high))
