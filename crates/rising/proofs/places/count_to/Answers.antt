use Rattle.std.specs.Prelude.{int_lt, int_le}
use Rattle.std.proofs.Common.{rules, tests}
use Rattle.std.proofs.lemmas.List.Sorted.{IsPartitionPoint-from_clause}
use Rattle.rising.proofs.Parting.{parted_up_to, take_parted, drop_parted, after_is_not_up_to}
use Rattle.rising.proofs.places.count_to.Goals as goal

pub returns-clause-front : goal.returns-clause-front
returns-clause-front g c =
    let place = g.T.Keyed.place in
    let n = g.T.Keyed.number c.args.key in
    take_parted (λ x. int_le (place x) n) c.args.list.now c.partition_point.result c.partition_point.ensures.bound
    (IsPartitionPoint-from_clause (λ x. int_le (place x) n) c.args.list.now c.partition_point.result c.partition_point.ensures.partitioned
    (parted_up_to place n c.args.list.now c.requires) (λ a r q k. search (rules, tests)))

pub returns-clause-back : goal.returns-clause-back
returns-clause-back g c =
    let place = g.T.Keyed.place in
    let n = g.T.Keyed.number c.args.key in
    drop_parted (λ x. int_le (place x) n) (λ x. int_lt n (place x)) (λ x. after_is_not_up_to n (place x)) c.args.list.now c.partition_point.result c.partition_point.ensures.bound
    (IsPartitionPoint-from_clause (λ x. int_le (place x) n) c.args.list.now c.partition_point.result c.partition_point.ensures.partitioned
    (parted_up_to place n c.args.list.now c.requires) (λ a r q k. search (rules, tests)))
