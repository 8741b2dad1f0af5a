-- Rows without a fault are a table.
use Rattle.std.proofs.Common.{sym, subst}
use Rattle.rating_tables.specs.Table.{IsTable}
use Rattle.rating_tables.proofs.TableLemmas.{none_table}
use Rattle.rating_tables.proofs.table.Table.new.Goals as goal

pub of_rows-requires : goal.of_rows-requires
of_rows-requires c = subst IsTable (sym c.in_ok-from_slice.ensures.items) (none_table c.args.rows.now (cc))
