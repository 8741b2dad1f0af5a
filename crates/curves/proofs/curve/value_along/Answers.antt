-- Of three points those two say the amount that stand about the stage.
use Rattle.std.proofs.Common.{◌∙◌, sym, arith}
use Rattle.curves.proofs.CaseLemmas.{pair_of_two, first_of_three, last_of_three, pair_value, told_gt, told_le}
use Rattle.curves.proofs.curve.value_along.Goals as goal

pub value_across-requires : goal.value_across-requires
value_across-requires c =
    (pair_of_two c.args.points.now c.first-item.result c.second-item.result c.args.stage (omega (arith, c.in-len2.len_at_least)) (omega (arith, c.in-len2.len_below)) c.requires.rising c.first-item.is c.second-item.is).rising

pub value_across-requires-then-le : goal.value_across-requires-then-le
value_across-requires-then-le c =
    (last_of_three c.args.points.now c.second-item-then-points-lt4.result c.third-item.result c.args.stage (omega (arith, c.in-len3.len_at_least)) (omega (arith, c.in-len3.len_below)) c.requires.rising c.second-item-then-points-lt4.is c.third-item.is
    (told_le c.second-item-then-points-lt4.result.0 c.args.stage (sym c.le.ensures ∙ c.if-le.true))).rising

pub value_across-requires-else-le : goal.value_across-requires-else-le
value_across-requires-else-le c =
    (first_of_three c.args.points.now c.first-item-then-points-lt4.result c.second-item-then-points-lt4.result c.args.stage (omega (arith, c.in-len3.len_at_least)) (omega (arith, c.in-len3.len_below)) c.requires.rising c.first-item-then-points-lt4.is c.second-item-then-points-lt4.is
    (told_gt c.second-item-then-points-lt4.result.0 c.args.stage (sym c.le.ensures ∙ c.if-le.false))).rising

pub returns-in-len2 : goal.returns-in-len2
returns-in-len2 c =
    pair_value c.args.points.now c.first-item.result c.second-item.result c.args.stage c.value_across.result
    (pair_of_two c.args.points.now c.first-item.result c.second-item.result c.args.stage (omega (arith, c.in-len2.len_at_least)) (omega (arith, c.in-len2.len_below)) c.requires.rising c.first-item.is c.second-item.is)
    (record { low = c.value_across.ensures.low; high = c.value_across.ensures.high; between = c.value_across.ensures.between })

pub returns-then-le : goal.returns-then-le
returns-then-le c =
    pair_value c.args.points.now c.second-item-then-points-lt4.result c.third-item.result c.args.stage c.value_across-then-le.result
    (last_of_three c.args.points.now c.second-item-then-points-lt4.result c.third-item.result c.args.stage (omega (arith, c.in-len3.len_at_least)) (omega (arith, c.in-len3.len_below)) c.requires.rising c.second-item-then-points-lt4.is c.third-item.is
    (told_le c.second-item-then-points-lt4.result.0 c.args.stage (sym c.le.ensures ∙ c.if-le.true)))
    (record { low = c.value_across-then-le.ensures.low; high = c.value_across-then-le.ensures.high; between = c.value_across-then-le.ensures.between })

pub returns-else-le : goal.returns-else-le
returns-else-le c =
    pair_value c.args.points.now c.first-item-then-points-lt4.result c.second-item-then-points-lt4.result c.args.stage c.value_across-else-le.result
    (first_of_three c.args.points.now c.first-item-then-points-lt4.result c.second-item-then-points-lt4.result c.args.stage (omega (arith, c.in-len3.len_at_least)) (omega (arith, c.in-len3.len_below)) c.requires.rising c.first-item-then-points-lt4.is c.second-item-then-points-lt4.is
    (told_gt c.second-item-then-points-lt4.result.0 c.args.stage (sym c.le.ensures ∙ c.if-le.false)))
    (record { low = c.value_across-else-le.ensures.low; high = c.value_across-else-le.ensures.high; between = c.value_across-else-le.ensures.between })
