use Rattle.std.specs.Prelude.{◌≤ℤ◌, take}
use Rattle.std.proofs.Common.{arith, sym}
use Rattle.std.proofs.lemmas.Int.{ints}
use Rattle.std.proofs.lemmas.List.{take_all}
use Rattle.std.proofs.lemmas.List.Elements.{All-more, All-weaker, All-same}
use Rattle.day_cells.proofs.columns.latest.Goals as goal

pub loop-other-preserved : goal.loop-other-preserved
loop-other-preserved c =
    let first = c.later_of-last.ensures.first in
    let second = c.later_of-last.ensures.second in
    let high = c.loop-other.invariant.high in
    let days = c.args.days.now in
    let i = c.loop-other.other-index in
    let here = c.other-item.is in
    record {
      high = omega (arith, ints);
      all = All-more (λ d. d ≤ℤ c.later_of-last.result) days i c.other-item.result c.loop-other-test.true
          (All-weaker (λ d. d ≤ℤ c.loop-other.last) (λ d. d ≤ℤ c.later_of-last.result) (λ d k. omega (arith, ints, k, first)) (take i days) c.loop-other.invariant.all)
          (omega (arith, ints));
    }

pub returns-clause-all : goal.returns-clause-all
returns-clause-all c =
    All-same (λ d. d ≤ℤ c.loop-other.last) c.args.days.now (take c.loop-other.other-index c.args.days.now)
    (sym (take_all c.loop-other.other-index c.args.days.now c.loop-other-test.false)) c.loop-other.invariant.all
