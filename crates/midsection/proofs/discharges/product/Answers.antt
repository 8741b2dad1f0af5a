-- The products fit.
use Rattle.std.proofs.Common.{◌≡◌, subst, sym, ◌*◌, ◌^◌, ℤ, pos, neg_ℤ, ◌*ℤ◌, ◌≤ℤ◌, FitsSigned, to_z, of_z, arith}
use Rattle.std.specs.Int.{w128}
use Rattle.std.proofs.lemmas.Int.{fits_signed_from_abs, ints, to_z-of_z}
use Rattle.midsection.specs.Verticals.{most_depth, most_distance, most_velocity}
use Rattle.midsection.proofs.ProductLemmas.{IsAtMost, magnitude, product_at_most}
use Rattle.midsection.proofs.discharges.product.Goals as goal

record IsFactors (velocity depth width : ℤ) : Type 0 where
  velocity_is : IsAtMost (4 * most_velocity) velocity
  depth_is : IsAtMost most_depth depth
  width_is : IsAtMost most_distance width

module _ (velocity depth width : ℤ) (h : IsFactors velocity depth width) where
  area : IsAtMost (4 * most_velocity * most_depth) (velocity *ℤ depth)
  area = product_at_most (4 * most_velocity) most_depth velocity depth h.velocity_is h.depth_is

  whole : IsAtMost (4 * most_velocity * most_depth * most_distance) ((velocity *ℤ depth) *ℤ width)
  whole = product_at_most (4 * most_velocity * most_depth) most_distance (velocity *ℤ depth) width area h.width_is

  area_fits : FitsSigned w128 (velocity *ℤ depth)
  area_fits = fits_signed_from_abs w128 (velocity *ℤ depth) (let m = magnitude _ _ area in omega (arith, m))

  whole_fits : FitsSigned w128 ((velocity *ℤ depth) *ℤ width)
  whole_fits = fits_signed_from_abs w128 ((velocity *ℤ depth) *ℤ width) (let m = magnitude _ _ whole in omega (arith, m))

factors : (c : goal.After-from-wide) → IsFactors c.args.velocity c.args.depth c.args.width
factors c =
    record {
      velocity_is = record { low = c.requires.slow; high = c.requires.fast };
      depth_is = record { low = omega (arith, ints, c.requires.deep.low); high = c.requires.deep.high };
      width_is = record { low = c.requires.low; high = c.requires.high };
    }

-- what is computed is the product of the three
record Computes (c : goal.After-from-wide) : Type 0 where
  fast : to_z w128 (of_z w128 c.from-fast.result) ≡ c.args.velocity
  deep : to_z w128 (of_z w128 c.from-deep.result) ≡ c.args.depth
  wide : to_z w128 (of_z w128 c.from-wide.result) ≡ c.args.width
  flow : to_z w128 (of_z w128 (c.args.velocity *ℤ c.args.depth)) ≡ c.args.velocity *ℤ c.args.depth

computes : (c : goal.After-from-wide) → Computes c
computes c = record {
  fast = omega (arith, ints, c.from-fast.ensures);
  deep = omega (arith, ints, c.from-deep.ensures);
  wide = omega (arith, ints, c.from-wide.ensures);
  flow = to_z-of_z w128 (c.args.velocity *ℤ c.args.depth) (area_fits c.args.velocity c.args.depth c.args.width (factors c));
}

pub overflow_mul-result-2 : goal.overflow_mul-result-2
overflow_mul-result-2 c =
    let is = computes c in
    rw (is.fast, is.deep, is.flow, is.wide) (whole_fits c.args.velocity c.args.depth c.args.width (factors c))

pub returns-clause-value : goal.returns-clause-value
returns-clause-value c =
    let is = computes c in
    rw (is.fast, is.deep, is.flow, is.wide) (to_z-of_z w128 ((c.args.velocity *ℤ c.args.depth) *ℤ c.args.width) (whole_fits c.args.velocity c.args.depth c.args.width (factors c)))

pub returns-clause-low : goal.returns-clause-low
returns-clause-low c =
    let same = returns-clause-value c in
    let bound = (whole c.args.velocity c.args.depth c.args.width (factors c)).low in
    subst (λ (z : ℤ). neg_ℤ (pos (4 * 10 ^ 28)) ≤ℤ z) (sym same) (omega (arith, ints, bound))

pub returns-clause-high : goal.returns-clause-high
returns-clause-high c =
    let same = returns-clause-value c in
    let bound = (whole c.args.velocity c.args.depth c.args.width (factors c)).high in
    subst (λ (z : ℤ). z ≤ℤ pos (4 * 10 ^ 28)) (sym same) (omega (arith, ints, bound))
