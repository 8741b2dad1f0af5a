-- The place that the search finds parts the points as two filters do.
use Rattle.std.specs.Prelude.{ℤ, int_lt, int_le}
use Rattle.std.proofs.Common.{rules, tests}
use Rattle.std.proofs.lemmas.List.Sorted.{IsPartitionPoint-from_clause}
use Rattle.rising.proofs.Parting.{parted_up_to, take_parted, drop_parted, after_is_not_up_to}
use Rattle.fixed_units.proofs.points.count_to.Goals as goal

pub returns-clause-front : goal.returns-clause-front
returns-clause-front c =
    take_parted (λ (p : ℤ × ℤ). int_le p.0 c.args.x) c.args.points.now c.partition_point.result c.partition_point.ensures.bound
    (IsPartitionPoint-from_clause (λ (p : ℤ × ℤ). int_le p.0 c.args.x) c.args.points.now c.partition_point.result c.partition_point.ensures.partitioned
    (parted_up_to (λ (p : ℤ × ℤ). p.0) c.args.x c.args.points.now c.requires) (λ a r q k. search (rules, tests)))

pub returns-clause-back : goal.returns-clause-back
returns-clause-back c =
    drop_parted (λ (p : ℤ × ℤ). int_le p.0 c.args.x) (λ (p : ℤ × ℤ). int_lt c.args.x p.0) (λ x. after_is_not_up_to c.args.x x.0) c.args.points.now c.partition_point.result c.partition_point.ensures.bound
    (IsPartitionPoint-from_clause (λ (p : ℤ × ℤ). int_le p.0 c.args.x) c.args.points.now c.partition_point.result c.partition_point.ensures.partitioned
    (parted_up_to (λ (p : ℤ × ℤ). p.0) c.args.x c.args.points.now c.requires) (λ a r q k. search (rules, tests)))
