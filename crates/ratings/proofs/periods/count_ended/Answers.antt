-- The place that the search finds parts the periods as a filter does.
use Rattle.std.specs.Prelude.{not, Bool, true, false, ◌≡◌}
use Rattle.std.proofs.Common.{rules, tests, refl}
use Rattle.std.proofs.lemmas.List.Sorted.{IsPartitionPoint-from_clause}
use Rattle.ratings.specs.Periods.{is_before_end}
use Rattle.ratings.specs.Spans.{Span}
use Rattle.rising.proofs.Parting.{drop_parted}
use Rattle.ratings.proofs.CuttingLemmas.{parted_ended}
use Rattle.ratings.proofs.periods.count_ended.Goals as goal

twice : (b : Bool) → b ≡ not (not b)
twice true = refl
twice false = refl

pub returns-clause-back : goal.returns-clause-back
returns-clause-back c =
    drop_parted (λ (p : Span). not (is_before_end c.args.at p.until)) (λ (p : Span). is_before_end c.args.at p.until) (λ p. twice (is_before_end c.args.at p.until)) c.args.list.now
    c.partition_point.result c.partition_point.ensures.bound
    (IsPartitionPoint-from_clause (λ (p : Span). not (is_before_end c.args.at p.until)) c.args.list.now c.partition_point.result c.partition_point.ensures.partitioned
    (parted_ended c.args.at c.args.list.now c.requires) (λ a r q k. search (rules, tests)))
