-- A step takes the pair at the index.
use Rattle.std.proofs.Common.{◌<ℤ◌, ◌+◌, sym, subst, drop, List}
use Rattle.daily_values.specs.DayValue.{Point}
use Rattle.daily_values.specs.Figures.{IsValueWithin}
use Rattle.daily_values.proofs.SumLemmas.{IsSumOfRest, drop-at, sum-step}
use Rattle.daily_values.proofs.from_scratch.add_areas.Goals as goal

pub add_pair-requires-clause-rising : goal.add_pair-requires-clause-rising
add_pair-requires-clause-rising c =
    subst (λ (p : Point × Point). p.0.0 <ℤ p.1.0) (sym c.pair-item.is)
    (c.requires.rising c.loop-pair.pair-index c.pair-item.result c.loop-pair-test.true)

pub loop-pair-preserved : goal.loop-pair-preserved
loop-pair-preserved c =
    let day = c.args.parts.now in
    let pairs = c.args.pairs.now in
    let i = c.loop-pair.pair-index in
    let pair = c.pair-item.result in
    let from = drop-at pairs i pair c.loop-pair-test.true c.pair-item.is in
    let summed = subst (λ (ps : List (Point × Point)). IsSumOfRest day ps pairs c.loop-pair.sum) from c.loop-pair.invariant.summed in
    record {
      summed = sum-step day pair (drop (i + 1) pairs) pairs c.loop-pair.sum c.add_pair.new.sum summed c.add_pair.ensures.twice c.add_pair.ensures.covered;
      fits = c.add_pair.ensures.fits;
      within = λ below above h.
          let both = subst (λ (p : Point × Point). IsValueWithin below above p.0.1 × IsValueWithin below above p.1.1) (sym c.pair-item.is) (h i pair c.loop-pair-test.true) in
          c.add_pair.ensures.within below above both.0 both.1 (c.loop-pair.invariant.within below above h);
    }
