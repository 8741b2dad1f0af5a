use Rattle.std.proofs.Common.{◌≡◌, arith, [], None, ap, ◌∙◌}
use Rattle.std.proofs.lemmas.List.{take_all}
use Rattle.rating_tables.specs.Table.{table_fault}
use Rattle.records.specs.Parsing.{row_in, rows_in}
use Rattle.records.proofs.RowLemmas.{row_in_range, table_none}
use Rattle.records.proofs.WritingLemmas.{read_more}
use Rattle.records.proofs.rating_drafts.table_from.Goals as goal

pub row_from-requires : goal.row_from-requires
row_from-requires c = row_in_range c.args.rows.now c.loop-row.row-index [] (omega arith) c.requires

pub loop-row-preserved : goal.loop-row-preserved
loop-row-preserved c =
    read_more row_in _ _ _ c.args.rows.now c.loop-row.row-index _ c.loop-row-test.true c.in_ok-push.ensures.items c.row_from.ensures c.loop-row.invariant

pub unreachable-requires : goal.unreachable-requires
unreachable-requires c =
    let whole : c.loop-row.kept.items ≡ rows_in c.args.rows.now = c.loop-row.invariant ∙ ap rows_in (take_all c.loop-row.row-index c.args.rows.now (omega arith)) in
    let none : table_fault c.loop-row.kept.items ≡ None = ap table_fault whole ∙ table_none (rows_in c.args.rows.now) c.requires.table in
    let some = c.in-Err.ensures.err in
    cc
