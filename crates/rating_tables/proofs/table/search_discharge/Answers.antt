-- The stage lies from the one row up to the other.
use Rattle.std.proofs.Common.{◌∙◌, arith}
use Rattle.std.proofs.lemmas.Int.{ints}
use Rattle.rising.proofs.Parting.{up_to_place, after_place}
use Rattle.rating_tables.specs.Table.{stage_in}
use Rattle.rating_tables.proofs.table.search_discharge.Goals as goal

pub line_between-requires-clause-rising : goal.line_between-requires-clause-rising
line_between-requires-clause-rising c =
    let low = up_to_place stage_in c.args.stage _ _ _ c.in-Some.row.now (c.split_at.ensures.front ∙ c.count_to.ensures.front) c.in-Some.ensures.value in
    let high = after_place stage_in c.args.stage _ _ _ c.in-Some-first.next.now (c.split_at.ensures.back ∙ c.count_to.ensures.back) c.in-Some-first.ensures.value in
    omega (arith, ints, low, high)

pub line_between-requires-clause-first : goal.line_between-requires-clause-first
line_between-requires-clause-first c =
    up_to_place stage_in c.args.stage _ _ _ c.in-Some.row.now (c.split_at.ensures.front ∙ c.count_to.ensures.front) c.in-Some.ensures.value

pub line_between-requires-clause-last : goal.line_between-requires-clause-last
line_between-requires-clause-last c =
    let high = after_place stage_in c.args.stage _ _ _ c.in-Some-first.next.now (c.split_at.ensures.back ∙ c.count_to.ensures.back) c.in-Some-first.ensures.value in
    omega (arith, ints, high)
