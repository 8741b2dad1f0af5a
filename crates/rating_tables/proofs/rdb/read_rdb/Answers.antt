-- The lines under the names and the formats make the table.
use Rattle.rating_tables.specs.Lines.{kept_lines}
use Rattle.rating_tables.proofs.RangeLemmas.{read_rating}
use Rattle.rating_tables.proofs.RdbLemmas.{read_in_order}
use Rattle.rating_tables.proofs.rdb.read_rdb.Goals as goal

pub make_table-requires : goal.make_table-requires
make_table-requires c =
    read_in_order c.in-Some-find_columns.columns (kept_lines c.in-Some-next_line.formats.number c.in-Some-next_line.formats.behind.now) c.in_ok-rows.rows.kept.items c.in_ok-rows.rows.count c.in_ok-rows.ensures.ok

pub returns-clause-rating : goal.returns-clause-rating
returns-clause-rating c =
    read_rating c.in-Some-find_columns.columns (kept_lines c.in-Some-next_line.formats.number c.in-Some-next_line.formats.behind.now) c.in_ok-rows.rows.kept.items c.in_ok-rows.rows.count c.make_table.result
    c.in_ok-rows.ensures.ok c.make_table.ensures.ok
