-- Rows that were all kept are a table where they are as many as one may have.
use Rattle.std.proofs.Common.{◌≡◌, ◌∙◌, ap, sym, length}
use Rattle.std.proofs.lemmas.Bool.Decides.{nat_tests}
use Rattle.std.proofs.Common.{arith}
use Rattle.rating_tables.specs.Table.{is_off_count}
use Rattle.rating_tables.proofs.TableLemmas.{in_order_table}
use Rattle.rating_tables.proofs.rdb.make_table.Goals as goal

pub of_rows-requires : goal.of_rows-requires
of_rows-requires c =
    let all : length c.args.rows.kept.items ≡ c.args.rows.count = grind (arith, nat_tests) in
    in_order_table c.args.rows.kept.items (ap is_off_count all ∙ sym c.is_off_count.ensures ∙ c.if-is_off_count.false) (c.requires all)
