-- A turn adds the discharge at its place.
use Rattle.std.proofs.Common.{◌≡◌, ◌∙◌, ℕ, suc, ◌+◌, ℤ, ◌+ℤ◌, length, take, to_z, of_z, ap, sym, arith, refl}
use Rattle.std.specs.Int.{w64}
use Rattle.std.specs.Prelude.{None}
use Rattle.std.proofs.Math.Seq.{take-length}
use Rattle.std.proofs.lemmas.Int.{ints}
use Rattle.midsection.specs.Midsection.{discharges, sum_of}
use Rattle.midsection.proofs.DischargeLemmas.{discharges_length, sum_more}
use Rattle.midsection.proofs.discharges.sum_discharges.Goals as goal

pub plus-sum-requires-clause-sum : goal.plus-sum-requires-clause-sum
plus-sum-requires-clause-sum c =
    let inv = c.loop-place.invariant in
    record { low = omega (arith, ints, inv.within, inv.bound.low, c.requires.few); high = omega (arith, ints, inv.within, inv.bound.high, c.requires.few) }

plain : (c : goal.After-plus-sum) → to_z w64 (of_z w64 c.plus-sum.result) ≡ to_z w64 c.loop-place.sum-bits +ℤ c.discharge_among.result
plain c =
    let same : to_z w64 (of_z w64 c.plus-sum.result) ≡ c.plus-sum.result = omega (arith, ints) in
    same ∙ c.plus-sum.ensures

pub loop-place-init : goal.loop-place-init
unfolding sum_of
loop-place-init c = record {
  within = omega arith;
  sum = refl;
  bound = record { low = omega (arith, ints); high = omega (arith, ints) };
}

pub loop-place-preserved : goal.loop-place-preserved
loop-place-preserved c =
    let i = c.loop-place.place in
    let e : i + 1 ≡ suc i = omega arith in
    let inv = c.loop-place.invariant in
    record {
      within = omega (arith);
      sum =
          rw e (plain c ∙ ap (λ (s : ℤ). s +ℤ c.discharge_among.result) inv.sum
          ∙ sym (sum_more (discharges c.args.verticals.now) i c.discharge_among.result c.discharge_among.ensures.value));
      bound =
          record {
            low = omega (arith, ints, plain c, inv.bound.low, c.discharge_among.ensures.range.low);
            high = omega (arith, ints, plain c, inv.bound.high, c.discharge_among.ensures.range.high);
          };
    }

pub returns : goal.returns
returns c =
    let all = discharges c.args.verticals.now in
    let inv = c.loop-place.invariant in
    let full : c.loop-place.place ≡ length all = omega (arith, discharges_length None c.args.verticals.now, inv.within) in
    inv.sum ∙ ap (λ (k : ℕ). sum_of (take k all)) full ∙ ap sum_of (take-length all)
