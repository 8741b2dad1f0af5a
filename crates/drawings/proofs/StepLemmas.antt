-- The round steps.
use Rattle.std.proofs.Common.{◌≡◌, refl, sym, subst, ap, ◌∙◌, Bool, true, false, ◌&&◌, cond, List, [], ◌∷◌, Some, ℤ, pos, ◌*ℤ◌, ◌≤ℤ◌, arith}
use Rattle.std.specs.Prelude.{find, int_le, Option, None, unwrap_or}
use Rattle.std.specs.List.{list_all}
use Rattle.std.proofs.lemmas.Int.{ints}
use Rattle.fixed_units.specs.Quantities.{IsWithin, is_within}
use Rattle.drawings.specs.Ranges.{first_step, greatest_step, round_step}
use Rattle.drawings.specs.declared.steps.TheConstants.{STEPS}

-- what a test says
yes_le : (x y : ℤ) → int_le x y ≡ true → x ≤ℤ y
yes_le x y h = omega (arith, ints)

-- both hold where both together do
both_hold : (a b : Bool) → (a && b) ≡ true → (a ≡ true) × (b ≡ true)
both_hold true true h = (refl, refl)
both_hold true false h = absurd (cc h)
both_hold false true h = absurd (cc h)
both_hold false false h = absurd (cc h)

-- what is found is one of the list
pub found : (p q : ℤ → Bool) (ns : List ℤ) (m : ℤ) → list_all q ns ≡ true → find p ns ≡ Some m → q m ≡ true
found p q [] m each is = absurd (cc is)
found p q (n ∷ ns) m each is =
    let parts = both_hold (q n) (list_all q ns) each in
    let goal : Bool → Type 0 = λ b. cond b (Some n) (find p ns) ≡ Some m → q m ≡ true in
    let cases : (b : Bool) → goal b = λ b. elim b as goal [
      | true ↦ λ same. let one : n ≡ m = cc same in ap q (sym one) ∙ parts.0
      | false ↦ λ same. found p q ns m parts.1 same
    ] in
    cases (p n) is

-- each of the round steps is between the least and the greatest
pub steps_bounded : list_all (is_within (pos 1) greatest_step) STEPS ≡ true
steps_bounded = refl

-- and so is the first that is long enough
pub step_bounded : (length step : ℤ) → first_step STEPS length ≡ Some step → IsWithin (pos 1) greatest_step step
step_bounded length step is =
    let within = found (λ s. int_le length (pos 8 *ℤ s)) (is_within (pos 1) greatest_step) STEPS step steps_bounded is in
    let both = both_hold (int_le (pos 1) step) (int_le step greatest_step) within in
    record { low = yes_le (pos 1) step both.0; high = yes_le step greatest_step both.1 }

-- so is the round step of a length
bounded_or : (length : ℤ) (found : Option ℤ) → first_step STEPS length ≡ found → IsWithin (pos 1) greatest_step (unwrap_or found greatest_step)
bounded_or length None is = record { low = omega (arith, ints); high = omega (arith, ints) }
bounded_or length (Some step) is = step_bounded length step is

pub round_step_bounded : (step length : ℤ) → step ≡ round_step length → IsWithin (pos 1) greatest_step step
unfolding round_step
round_step_bounded step length is =
    subst (λ (s : ℤ). IsWithin (pos 1) greatest_step s) (sym is) (bounded_or length (first_step STEPS length) refl)
