-- Points that may be put are a curve.
use Rattle.std.specs.Prelude.{◌≡◌, true, cond, List, [], ◌∷◌, Option, Some, None, IfNone, Ok, ℤ, ◌<ℤ◌, int_lt}
use Rattle.std.specs.Result.{result_ok}
use Rattle.std.proofs.Common.{arith, refl, ap, ◌∙◌}
use Rattle.std.proofs.lemmas.Int.{ints}
use Rattle.curves.specs.Curve.{curve_of, unless_falling}
use Rattle.edits.specs.Lawful.{IsPutCurve}
use Rattle.records.proofs.entry_drafts.curve_through.Goals as goal

less : (a b : ℤ) → a <ℤ b → int_lt a b ≡ true
less a b h = grind (arith, ints)

put_curve : (points : List (ℤ × ℤ)) → IsPutCurve points → curve_of points ≡ Ok points
put_curve [] h = absurd (let few = h.fewest in omega arith)
put_curve (p ∷ []) h = refl
put_curve (p ∷ q ∷ []) h =
    ap (λ b. unless_falling (p ∷ q ∷ []) (cond b None (Some 1))) (less p.0 q.0 (h.rising 0 1 p (omega arith) (omega arith)))
put_curve (p ∷ q ∷ r ∷ []) h =
    ap (λ b. unless_falling (p ∷ q ∷ r ∷ []) (cond b (cond (int_lt q.0 r.0) None (Some 2)) (Some 1))) (less p.0 q.0 (h.rising 0 1 p (omega arith) (omega arith)))
    ∙ ap (λ b. unless_falling (p ∷ q ∷ r ∷ []) (cond b None (Some 2))) (less q.0 r.0 (h.rising 1 2 p (omega arith) (omega arith)))
put_curve (p ∷ q ∷ r ∷ s ∷ points) h = absurd (let most = h.most in omega arith)

none_but : (points : List (ℤ × ℤ)) (result : Option (List (ℤ × ℤ))) → result ≡ result_ok (curve_of points) → IfNone result (¬ IsPutCurve points)
none_but points (Some curve) e = tt
none_but points None e = λ h. absurd (let there : None ≡ Some points = e ∙ ap result_ok (put_curve points h) in cc)

pub returns-clause-none : goal.returns-clause-none
returns-clause-none c = none_but c.args.places.now c.ok.result (c.ok.ensures.value ∙ ap result_ok c.new.ensures)
