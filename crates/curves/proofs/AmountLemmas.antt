-- Where the amounts of the curves are within 1,000 feet, so are the values of curves and series.
use Rattle.std.specs.Prelude.{◌≡◌, Bool, true, false, List, ℤ, pos, neg_ℤ, ◌≤ℤ◌, ◌<ℤ◌, int_lt, int_le, Option, Some, None, IfSome, All}
use Rattle.std.proofs.Common.{arith, refl}
use Rattle.std.proofs.lemmas.Int.{ints}
use Rattle.std.proofs.lemmas.List.Elements.{All-filter}
use Rattle.fixed_units.specs.Lines.{line_at}
use Rattle.fixed_units.proofs.LineLemmas.{line-within}
use Rattle.rising.specs.Lists.{up_to, after}
use Rattle.rising.specs.Ends.{first, last}
use Rattle.fixed_units.specs.Quantities.{IsAmount, most_amount}
use Rattle.curves.specs.Curve.{stage_of, amount_by, curve_value}
use Rattle.curves.specs.Entries.{instant_of, amount_in_force, series_value, AreAmounts}
use Rattle.curves.specs.declared.entries.Entry.{Entry}
use Rattle.rising.proofs.Parting.{IsUpTo, IsAfter, up_to_is_up_to, after_is_after}
use Rattle.rising.proofs.Ends.{last-kept, first-kept}

zero-IsAmount : IsAmount (pos 0)
zero-IsAmount = record { low = omega (arith, ints); high = omega (arith, ints) }

line-IsAmount : (p q : ℤ × ℤ) (x : ℤ) → p.0 <ℤ q.0 → p.0 ≤ℤ x → x ≤ℤ q.0 → IsAmount p.1 → IsAmount q.1 → IsAmount (line_at p q x)
line-IsAmount p q x h from until first last = line-within p q x (neg_ℤ (pos most_amount)) (pos most_amount) h from until first last

-- what holds of each holds of the last and of the first, if there is one
if_some : {X : Type 0} (P : X → Type 0) (o : Option X) → ((x : X) → o ≡ Some x → P x) → IfSome o P
if_some P None h = tt
if_some P (Some x) h = h x refl

if_last : {X : Type 0} (P : X → Type 0) (xs : List X) → All P xs → IfSome (last xs) P
if_last P xs h = if_some P (last xs) (λ x e. last-kept P xs x h e)

if_first : {X : Type 0} (P : X → Type 0) (xs : List X) → All P xs → IfSome (first xs) P
if_first P xs h = if_some P (first xs) (λ x e. first-kept P xs x h e)

by-IsAmount : (o n : Option (ℤ × ℤ)) (stage : ℤ) → IfSome o (λ p. IsAmount p.1) → IfSome n (λ p. IsAmount p.1)
    → IfSome o (IsUpTo stage_of stage) → IfSome n (IsAfter stage_of stage) → IsAmount (amount_by o n stage)
by-IsAmount None None stage h k l m = zero-IsAmount
by-IsAmount None (Some q) stage h k l m = k
by-IsAmount (Some p) None stage h k l m = h
by-IsAmount (Some p) (Some q) stage h k l m =
    line-IsAmount p q stage (omega (arith, ints, l, m)) l (omega (arith, ints, m)) h k

pub curve-IsAmount : (points : List (ℤ × ℤ)) (stage : ℤ) → All (λ p. IsAmount p.1) points → IsAmount (curve_value points stage)
curve-IsAmount points stage h =
    by-IsAmount (last (up_to stage_of stage points)) (first (after stage_of stage points)) stage
    (if_last (λ p. IsAmount p.1) (up_to stage_of stage points) (All-filter (λ p. int_le p.0 stage) (λ p. IsAmount p.1) points h))
    (if_first (λ p. IsAmount p.1) (after stage_of stage points) (All-filter (λ p. int_lt stage p.0) (λ p. IsAmount p.1) points h))
    (if_last (IsUpTo stage_of stage) (up_to stage_of stage points) (up_to_is_up_to stage_of stage points))
    (if_first (IsAfter stage_of stage) (after stage_of stage points) (after_is_after stage_of stage points))

abbrev HasAmounts : Entry → Type 0
HasAmounts e = All (λ p. IsAmount p.1) e.curve

force_step : (e n : Entry) (at stage : ℤ) (b : Bool) → e.prorate ≡ b → HasAmounts e → HasAmounts n → e.at ≤ℤ at → at <ℤ n.at
    → IsAmount (amount_in_force (Some e) (Some n) at stage)
force_step e n at stage true f h k l m =
    rw f (line-IsAmount (e.at, curve_value e.curve stage) (n.at, curve_value n.curve stage) at
    (omega (arith, ints, l, m)) l (omega (arith, ints, m)) (curve-IsAmount e.curve stage h) (curve-IsAmount n.curve stage k))
force_step e n at stage false f h k l m = rw f (curve-IsAmount e.curve stage h)

force-IsAmount : (o n : Option Entry) (at stage : ℤ) → IfSome o HasAmounts → IfSome n HasAmounts
    → IfSome o (IsUpTo instant_of at) → IfSome n (IsAfter instant_of at) → IsAmount (amount_in_force o n at stage)
force-IsAmount None n at stage h k l m = zero-IsAmount
force-IsAmount (Some e) None at stage h k l m = curve-IsAmount e.curve stage h
force-IsAmount (Some e) (Some n) at stage h k l m = force_step e n at stage e.prorate refl h k l m

pub series-IsAmount : (at stage : ℤ) (es : List Entry) → AreAmounts es → IsAmount (series_value es at stage)
series-IsAmount at stage es h =
    force-IsAmount (last (up_to instant_of at es)) (first (after instant_of at es)) at stage
    (if_last HasAmounts (up_to instant_of at es) (All-filter (λ e. int_le e.at at) HasAmounts es h))
    (if_first HasAmounts (after instant_of at es) (All-filter (λ e. int_lt at e.at) HasAmounts es h))
    (if_last (IsUpTo instant_of at) (up_to instant_of at es) (up_to_is_up_to instant_of at es))
    (if_first (IsAfter instant_of at) (after instant_of at es) (after_is_after instant_of at es))
