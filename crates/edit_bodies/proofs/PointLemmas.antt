-- The points that are read are those of a curve that an edit puts.
use Rattle.std.proofs.Common.{◌≡◌, ℕ, Bool, true, false, List, [], ◌∷◌, ℤ, ◌<ℤ◌, int_lt, All, Option, Some, None, option_and_then, IfSome, Result, Ok, Err, if◌then◌else◌, refl, subst, lit≤, arith}
use Rattle.std.proofs.lemmas.Int.{ints}
use Rattle.std.proofs.lemmas.List.Elements.{All-cons, All-nil}
use Rattle.std.proofs.lemmas.List.Kept.{AllPairs-cons}
use Rattle.std.specs.Result.{result_ok}
use Rattle.curves.specs.Curve.{curve_of, first_not_rising, stage_of as at_stage, unless_falling}
use Rattle.curves.specs.declared.curve.CurveFault.{CurveFault}
use Rattle.edit_bodies.proofs.PairLemmas.{each_pair, within}
use Rattle.edit_bodies.specs.Grammars.{curve_if, each_of, point_of, points_of}
use Rattle.edits.specs.Lawful.{IsPutCurve, IsPutPoint}
use Rattle.fixed_units.specs.Quantities.{is_amount, is_stage}
use Rattle.rising.proofs.Parting.{yes_lt}
use Rattle.rising.specs.Lists.{IsRising}
use Rattle.serde_json.specs.Data.{Data, Items}
use Rattle.serde_json.specs.Find.{as_array}

-- each point that is read may be put
each_put : (rows : Items) (ps : List (ℤ × ℤ)) → each_of point_of rows ≡ Some ps → All IsPutPoint ps
each_put rows ps e =
    each_pair is_stage is_amount IsPutPoint (λ p stage amount. record { stage = within _ _ p.0 stage; amount = within _ _ p.1 amount }) rows ps e

-- stages that rise from each point to the next rise
abbrev Rises : List (ℤ × ℤ) → Type 0
Rises points = IsRising at_stage points

abbrev IsBelow : ℤ × ℤ → ℤ × ℤ → Type 0
IsBelow p q = at_stage p <ℤ at_stage q

one_rises : (p : ℤ × ℤ) → Rises (p ∷ [])
one_rises p = AllPairs-cons IsBelow p [] (All-nil (IsBelow p)) (λ i j d k l. absurd (omega arith))

two_rise : (p q : ℤ × ℤ) → IsBelow p q → Rises (p ∷ q ∷ [])
two_rise p q h = AllPairs-cons IsBelow p (q ∷ []) (All-cons (IsBelow p) q [] h (All-nil (IsBelow p))) (one_rises q)

three_rise : (p q r : ℤ × ℤ) → IsBelow p q → IsBelow q r → Rises (p ∷ q ∷ r ∷ [])
three_rise p q r h k =
    AllPairs-cons IsBelow p (q ∷ r ∷ []) (All-cons (IsBelow p) q (r ∷ []) h (All-cons (IsBelow p) r [] (omega (arith, ints, h, k)) (All-nil (IsBelow p)))) (two_rise q r k)

-- points without a fault are what is given
told : (points curve : List (ℤ × ℤ)) (fault : Option ℕ) → unless_falling points fault ≡ Ok curve → (fault ≡ None) × (points ≡ curve)
told points curve None e = (refl, cc)
told points curve (Some place) e = absurd cc

passed : (b : Bool) (more : Option ℕ) (place : ℕ) → (if b then more else Some place) ≡ None → (b ≡ true) × (more ≡ None)
passed true more place e = (refl, e)
passed false more place e = absurd cc

curve_put : (points curve : List (ℤ × ℤ)) → curve_of points ≡ Ok curve → All IsPutPoint points → IsPutCurve curve
curve_put [] curve e each = absurd cc
curve_put (p ∷ []) curve e each =
    let same : p ∷ [] ≡ curve = cc in
    subst IsPutCurve same (record { fewest = lit≤ tt; most = lit≤ tt; rising = one_rises p; each = each })
curve_put (p ∷ q ∷ []) curve e each =
    let t = told (p ∷ q ∷ []) curve (first_not_rising 1 (p ∷ q ∷ [])) e in
    let first = passed (int_lt p.0 q.0) None 1 t.0 in
    subst IsPutCurve t.1 (record { fewest = lit≤ tt; most = lit≤ tt; rising = two_rise p q (yes_lt _ _ first.0); each = each })
curve_put (p ∷ q ∷ r ∷ []) curve e each =
    let t = told (p ∷ q ∷ r ∷ []) curve (first_not_rising 1 (p ∷ q ∷ r ∷ [])) e in
    let first = passed (int_lt p.0 q.0) (first_not_rising 2 (q ∷ r ∷ [])) 1 t.0 in
    let second = passed (int_lt q.0 r.0) None 2 first.1 in
    subst IsPutCurve t.1 (record { fewest = lit≤ tt; most = lit≤ tt; rising = three_rise p q r (yes_lt _ _ first.0) (yes_lt _ _ second.0); each = each })
curve_put (p ∷ q ∷ r ∷ s ∷ points) curve e each = absurd cc

-- the curve that is read may be put
pub points-put : (there : Option Data) → IfSome (option_and_then points_of there) IsPutCurve
points-put None = tt
points-put (Some value) = in_rows (as_array value)
  where
    of_curve : (points : List (ℤ × ℤ)) (curve : Result (List (ℤ × ℤ)) CurveFault) → curve_of points ≡ curve → All IsPutPoint points → IfSome (result_ok curve) IsPutCurve
    of_curve points (Ok curve) is each = curve_put points curve is each
    of_curve points (Err fault) is each = tt

    of_points : (rows : Items) (points : Option (List (ℤ × ℤ))) → each_of point_of rows ≡ points → IfSome (option_and_then curve_if points) IsPutCurve
    of_points rows None is = tt
    of_points rows (Some points) is = of_curve points (curve_of points) refl (each_put rows points is)

    in_rows : (rows : Option Items) → IfSome (option_and_then curve_if (option_and_then (each_of point_of) rows)) IsPutCurve
    in_rows None = tt
    in_rows (Some rows) = of_points rows (each_of point_of rows) refl
