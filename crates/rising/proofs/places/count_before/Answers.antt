use Rattle.std.specs.Prelude.{int_lt, int_le}
use Rattle.std.proofs.Common.{rules, tests}
use Rattle.std.proofs.lemmas.List.Sorted.{IsPartitionPoint-from_clause}
use Rattle.rising.proofs.Parting.{parted_before, take_parted, drop_parted, from_is_not_before}
use Rattle.rising.proofs.places.count_before.Goals as goal

pub returns-clause-front : goal.returns-clause-front
returns-clause-front g c =
    let place = g.T.Keyed.place in
    let n = g.T.Keyed.number c.args.key in
    take_parted (λ x. int_lt (place x) n) c.args.list.now c.partition_point.result c.partition_point.ensures.bound
    (IsPartitionPoint-from_clause (λ x. int_lt (place x) n) c.args.list.now c.partition_point.result c.partition_point.ensures.partitioned
    (parted_before place n c.args.list.now c.requires) (λ a r q k. search (rules, tests)))

pub returns-clause-back : goal.returns-clause-back
returns-clause-back g c =
    let place = g.T.Keyed.place in
    let n = g.T.Keyed.number c.args.key in
    drop_parted (λ x. int_lt (place x) n) (λ x. int_le n (place x)) (λ x. from_is_not_before n (place x)) c.args.list.now c.partition_point.result c.partition_point.ensures.bound
    (IsPartitionPoint-from_clause (λ x. int_lt (place x) n) c.args.list.now c.partition_point.result c.partition_point.ensures.partitioned
    (parted_before place n c.args.list.now c.requires) (λ a r q k. search (rules, tests)))
