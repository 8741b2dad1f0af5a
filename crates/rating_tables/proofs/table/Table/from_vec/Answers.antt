-- Rows without a fault are a table.
use Rattle.std.proofs.Common.{subst}
use Rattle.rating_tables.specs.Table.{IsTable}
use Rattle.rating_tables.proofs.TableLemmas.{none_table}
use Rattle.rating_tables.proofs.table.Table.from_vec.Goals as goal

pub of_rows-requires : goal.of_rows-requires
of_rows-requires c = subst IsTable c.as_slice.ensures.value (none_table c.as_slice.result.now (cc))
