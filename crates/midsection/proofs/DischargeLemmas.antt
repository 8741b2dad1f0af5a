-- The discharges of verticals by their places, and their sum.
use Rattle.std.proofs.Common.{◌≡◌, ◌∙◌, ℕ, zero, suc, ◌+◌, ◌*◌, ◌^◌, ◌<◌, ◌≤◌, Bool, true, false, List, [], ◌∷◌, take, drop, length, Option, None, Some, ℤ, pos, neg_ℤ, ◌+ℤ◌, ◌≤ℤ◌, refl, ap, sym, subst, arith}
use Rattle.std.specs.Prelude.{slice_get, option_map, IfSome, unwrap_or, All}
use Rattle.std.specs.Ordering.{int_eq}
use Rattle.std.proofs.lemmas.Int.{ints}
use Rattle.midsection.specs.Fractions.{whole}
use Rattle.midsection.specs.Midsection.{IsFlow, discharge_between, discharges_behind, last_distance, next_distance, sum_of}
use Rattle.midsection.specs.Verticals as verticals
use Rattle.midsection.specs.Verticals.{IsMean, IsVelocity, IsVertical, mean_velocity, no_velocity, velocity}
use Rattle.midsection.specs.declared.fractions.Fraction.{Fraction}
use Rattle.midsection.specs.declared.verticals.Vertical.{Vertical}

-- the discharge at a place is that between its neighbours
pub discharge_at : (before : Option ℤ) (vs : List Vertical) (i : ℕ) (v : Vertical) → slice_get vs i ≡ Some v
    → slice_get (discharges_behind before vs) i ≡ Some (discharge_between (last_distance before (take i vs)) v (next_distance (drop (suc i) vs)))
unfolding discharges_behind
discharge_at before [] i v e = absurd (cc)
discharge_at before (x ∷ vs) zero v e =
    let same : x ≡ v = cc in
    ap (λ (y : Vertical). Some (discharge_between before y (next_distance vs))) same
discharge_at before (x ∷ vs) (suc i) v e = discharge_at (Some x.distance) vs i v e

pub last_before : (before : Option ℤ) (vs : List Vertical) (p : ℕ) (v : Vertical) → slice_get vs p ≡ Some v
    → last_distance before (take (suc p) vs) ≡ Some v.distance
last_before before [] p v e = absurd (cc)
last_before before (x ∷ vs) zero v e =
    let same : x ≡ v = cc in
    ap (λ (y : Vertical). Some y.distance) same
last_before before (x ∷ vs) (suc p) v e = last_before (Some x.distance) vs p v e

pub next_behind : (vs : List Vertical) (i : ℕ) → next_distance (drop i vs) ≡ option_map (λ (v : Vertical). v.distance) (slice_get vs i)
next_behind [] zero = refl
next_behind [] (suc i) = refl
next_behind (x ∷ vs) zero = refl
next_behind (x ∷ vs) (suc i) = next_behind vs i

pub discharges_length : (before : Option ℤ) (vs : List Vertical) → length (discharges_behind before vs) ≡ length vs
unfolding discharges_behind
discharges_length before [] = refl
discharges_length before (v ∷ vs) = ap suc (discharges_length (Some v.distance) vs)

pub sum_more : (ns : List ℤ) (i : ℕ) (n : ℤ) → slice_get ns i ≡ Some n → sum_of (take (suc i) ns) ≡ sum_of (take i ns) +ℤ n
unfolding sum_of
sum_more [] i n e = absurd (cc)
sum_more (x ∷ ns) zero n e =
    let same : x ≡ n = cc in
    omega (arith, ints, same)
sum_more (x ∷ ns) (suc i) n e = let h = sum_more ns i n e in omega (arith, ints, h)

-- a mean of velocities in range
mean_range : (v2 v6 v8 : Option ℤ) → IfSome v2 IsVelocity → IfSome v6 IsVelocity → IfSome v8 IsVelocity
    → IsMean (unwrap_or (mean_velocity v2 v6 v8) (whole (pos 0)))
mean_range None None None a b c = record { low = omega (arith, ints); high = omega (arith, ints); some = omega (arith, ints); few = omega (arith, ints) }
mean_range None None (Some z) a b c = record { low = omega (arith, ints); high = omega (arith, ints); some = omega (arith, ints); few = omega (arith, ints) }
mean_range None (Some y) None a b c = record { low = omega (arith, ints, b.low); high = omega (arith, ints, b.high); some = omega (arith, ints); few = omega (arith, ints) }
mean_range None (Some y) (Some z) a b c = record { low = omega (arith, ints); high = omega (arith, ints); some = omega (arith, ints); few = omega (arith, ints) }
mean_range (Some x) None None a b c = record { low = omega (arith, ints); high = omega (arith, ints); some = omega (arith, ints); few = omega (arith, ints) }
mean_range (Some x) None (Some z) a b c =
    record { low = omega (arith, ints, a.low, c.low); high = omega (arith, ints, a.high, c.high); some = omega (arith, ints); few = omega (arith, ints) }
mean_range (Some x) (Some y) None a b c = record { low = omega (arith, ints); high = omega (arith, ints); some = omega (arith, ints); few = omega (arith, ints) }
mean_range (Some x) (Some y) (Some z) a b c =
    record { low = omega (arith, ints, a.low, b.low, c.low); high = omega (arith, ints, a.high, b.high, c.high); some = omega (arith, ints); few = omega (arith, ints) }

still_range : (v2 v6 v8 : Option ℤ) → IsMean (unwrap_or (no_velocity v2 v6 v8) (whole (pos 0)))
still_range None None None = record { low = omega (arith, ints); high = omega (arith, ints); some = omega (arith, ints); few = omega (arith, ints) }
still_range None None (Some z) = record { low = omega (arith, ints); high = omega (arith, ints); some = omega (arith, ints); few = omega (arith, ints) }
still_range None (Some y) z = record { low = omega (arith, ints); high = omega (arith, ints); some = omega (arith, ints); few = omega (arith, ints) }
still_range (Some x) y z = record { low = omega (arith, ints); high = omega (arith, ints); some = omega (arith, ints); few = omega (arith, ints) }

pub velocity_range : (v : Vertical) → IsVertical v → IsMean (velocity v)
velocity_range v h = by (int_eq v.depth (pos 0)) refl
  where
    by : (b : Bool) → int_eq v.depth (pos 0) ≡ b → IsMean (velocity v)
    by true e = rw e (still_range v.v2 v.v6 v.v8)
    by false e = rw e (mean_range v.v2 v.v6 v.v8 h.v2 h.v6 h.v8)
