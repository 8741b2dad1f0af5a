-- What is summed and the pairs that are left make up the whole.
use Rattle.std.proofs.Common.{ℕ, drop}
use Rattle.std.specs.Prelude.{All}
use Rattle.fixed_units.specs.Quantities.{most_millionths}
use Rattle.daily_values.specs.Figures.{IsSumWithin, IsValueWithin}
use Rattle.daily_values.proofs.SumLemmas.{IsSumOfRest}
use Rattle.daily_values.proofs.from_scratch.add_areas.Given as goal

abbrev pub invariant-loop-pair : goal.invariant-loop-pair
invariant-loop-pair l = record {
  summed : IsSumOfRest l.parts (drop l.pair-index l.pairs) l.pairs l.sum;
  fits : IsSumWithin most_millionths most_millionths l.sum;
  within : (below above : ℕ) → All (λ p. IsValueWithin below above p.0.1 × IsValueWithin below above p.1.1) l.pairs → IsSumWithin below above l.sum;
}
