-- The place that the search finds parts the rows as two filters do.
use Rattle.std.specs.Prelude.{int_lt, int_le}
use Rattle.std.proofs.Common.{rules, tests}
use Rattle.std.proofs.lemmas.List.Sorted.{IsPartitionPoint-from_clause}
use Rattle.rating_tables.specs.Table.{Row}
use Rattle.rising.proofs.Parting.{take_parted, drop_parted, from_is_not_before}
use Rattle.rating_tables.proofs.TableLemmas.{parted_short}
use Rattle.rating_tables.proofs.table.count_short.Goals as goal

pub returns-clause-front : goal.returns-clause-front
returns-clause-front c =
    take_parted (λ (r : Row). int_lt r.1 c.args.discharge) c.args.rows.now c.partition_point.result c.partition_point.ensures.bound
    (IsPartitionPoint-from_clause (λ (r : Row). int_lt r.1 c.args.discharge) c.args.rows.now c.partition_point.result c.partition_point.ensures.partitioned
    (parted_short (λ (r : Row). r.1) c.args.discharge c.args.rows.now c.requires) (λ a r q k. search (rules, tests)))

pub returns-clause-back : goal.returns-clause-back
returns-clause-back c =
    drop_parted (λ (r : Row). int_lt r.1 c.args.discharge) (λ (r : Row). int_le c.args.discharge r.1) (λ r. from_is_not_before c.args.discharge r.1) c.args.rows.now c.partition_point.result c.partition_point.ensures.bound
    (IsPartitionPoint-from_clause (λ (r : Row). int_lt r.1 c.args.discharge) c.args.rows.now c.partition_point.result c.partition_point.ensures.partitioned
    (parted_short (λ (r : Row). r.1) c.args.discharge c.args.rows.now c.requires) (λ a r q k. search (rules, tests)))
