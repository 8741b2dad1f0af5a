-- The sum is that of the discharges up to a place.
use Rattle.std.proofs.Common.{◌≡◌, ◌*◌, ◌^◌, ◌≤◌, length, take}
use Rattle.midsection.specs.Midsection.{discharges, sum_of}
use Rattle.midsection.proofs.ProductLemmas.{IsAtMost}
use Rattle.midsection.proofs.discharges.sum_discharges.Given as goal

abbrev pub invariant-loop-place : goal.invariant-loop-place
invariant-loop-place l = record {
  within : l.place ≤ length l.verticals;
  sum : l.sum ≡ sum_of (take l.place (discharges l.verticals));
  bound : IsAtMost (l.place * (2 * 10 ^ 16)) l.sum;
}
