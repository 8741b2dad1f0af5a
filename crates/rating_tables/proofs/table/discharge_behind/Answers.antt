-- The two rows are neighbours, and the stage is between theirs.
use Rattle.std.proofs.Common.{◌∙◌, ap, sym, ◌+◌, arith}
use Rattle.rating_tables.specs.declared.table.Rated.TheVariants.{Value}
use Rattle.rating_tables.proofs.TableLawLemmas.{placed_rated, placed_rise, told_le}
use Rattle.rating_tables.proofs.table.discharge_behind.Goals as goal

pub line_between-requires-clause-rising : goal.line_between-requires-clause-rising
line_between-requires-clause-rising c =
    placed_rise c.args.rows.now c.args.place (c.args.place + 1) c.index-rows-place.result c.index-rows-place-2.result
    (record { most = c.requires.most; least = c.requires.least; order = record { rising = c.requires.order.rising; never_falling = c.requires.order.never_falling } })
    (omega arith) (omega arith) c.index-rows-place.is c.index-rows-place-2.is

pub returns-then-le-2 : goal.returns-then-le-2
returns-then-le-2 c =
    let low = told_le c.index-rows-place.result.0 c.args.stage (sym c.le.ensures ∙ c.if-le.true) in
    let high = told_le c.args.stage c.index-rows-place-2.result.0 (sym c.le-then-le.ensures ∙ c.if-le-2.true) in
    let line =
    placed_rated c.args.rows.now c.args.place (c.args.place + 1) c.index-rows-place.result c.index-rows-place-2.result c.args.stage
    (record { most = c.requires.most; least = c.requires.least; order = record { rising = c.requires.order.rising; never_falling = c.requires.order.never_falling } })
    (omega arith) (omega arith) c.index-rows-place.is c.index-rows-place-2.is low high in
    line ∙ ap Value (sym c.line_between.ensures)
