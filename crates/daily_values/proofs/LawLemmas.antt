-- Laws of extremes and of sums.
use Rattle.std.specs.Prelude.{◌≡◌, Bool, true, false, List, [], ◌∷◌, ◌++◌, ◌+◌, ℤ, pos, ◌+ℤ◌, Option, None, Some, IsSome, is_some, All, Contains, sum_by, ◌↔◌}
use Rattle.std.proofs.Common.{arith, refl, sym, subst}
use Rattle.std.proofs.lemmas.Int.{ints}
use Rattle.std.proofs.lemmas.List.Elements.{All-head, All-contains, All-contains_itself, Contains-append_right}
use Rattle.std.proofs.lemmas.List.Sums.{sum_by-cons}
use Rattle.unit_discharge.specs.declared.unit_values.Unit.{Unit}
use Rattle.day_inputs.specs.declared.day_inputs.DayParts.{DayParts}
use Rattle.daily_values.specs.DayValue.{Point, neighbours, pair_area, pair_seconds, twice_areas}
use Rattle.daily_values.proofs.ExtremeLemmas.{IsBestOf, IsFirst, IsOrder, best, best_is}

module _ (value : Unit → Option ℤ) (behind : Option ℤ → Option ℤ → Bool) (order : IsOrder behind) (units : List Unit) where
  first_is : (x : Unit) → best value behind units ≡ Some x → IsFirst value behind units x
  first_is x e = subst (IsBestOf value behind units) e (best_is value behind order units)

  -- the first of the best is one of them
  is_there : (x : Unit) → IsFirst value behind units x → Contains units x
  is_there x h =
      subst (λ (us : List Unit). Contains us x) (sym h.split)
      (Contains-append_right h.front (x ∷ h.back) x (All-head (Contains (x ∷ h.back)) x h.back (All-contains_itself (x ∷ h.back))))

  has_one : (o : Option Unit) → IsBestOf value behind units o → IsSome o → (u : Unit) × Contains units u × IsSome (value u)
  has_one None h s = absurd (cc)
  has_one (Some x) h s = (x, is_there x h, h.valued)

  one_counts : (o : Option Unit) → IsBestOf value behind units o → (u : Unit) → Contains units u → IsSome (value u) → IsSome o
  one_counts None h u there s = let none = All-contains (λ (v : Unit). is_some (value v) ≡ false) units u h there in absurd (cc)
  one_counts (Some x) h u there s = refl

  pub there : IsSome (best value behind units) ↔ ((u : Unit) × Contains units u × IsSome (value u))
  there = (has_one (best value behind units) (best_is value behind order units), λ w. one_counts (best value behind units) (best_is value behind order units) w.0 w.1 w.2)

  pub has_value : (x : Unit) → best value behind units ≡ Some x → IsSome (value x)
  has_value x e = (first_is x e).valued

  pub highest : (x u : Unit) → best value behind units ≡ Some x → Contains units u → behind (value x) (value u) ≡ false
  highest x u e there = All-contains (λ (v : Unit). behind (value x) (value v) ≡ false) units u (first_is x e).highest there

  pub earliest : (x : Unit) → best value behind units ≡ Some x
      → (front : List Unit) × (back : List Unit) × (units ≡ front ++ x ∷ back) × All (λ u. IsSome (value u) → behind (value u) (value x) ≡ true) front
  earliest x e = let h = first_is x e in (h.front, h.back, h.split, h.earlier)

-- sums with one pair more in front of both
added : (a x y z : ℤ) → x ≡ y +ℤ z → a +ℤ x ≡ (a +ℤ y) +ℤ z
added a x y z e = omega (arith, ints)

alone : (a x : ℤ) → a +ℤ x ≡ (a +ℤ pos 0) +ℤ x
alone a x = omega (arith, ints)

none : (x : ℤ) → x ≡ pos 0 +ℤ x
none x = omega (arith, ints)

pub areas_split : (day : DayParts) (front back : List Point) (p : Point)
    → twice_areas day (neighbours (front ++ p ∷ back)) ≡ twice_areas day (neighbours (front ++ p ∷ [])) +ℤ twice_areas day (neighbours (p ∷ back))
areas_split day [] back p = none (twice_areas day (neighbours (p ∷ back)))
areas_split day (q ∷ []) back p = alone (pair_area day (q, p)) (twice_areas day (neighbours (p ∷ back)))
areas_split day (q ∷ r ∷ front) back p =
    added (pair_area day (q, r)) (twice_areas day (neighbours (r ∷ (front ++ p ∷ back)))) (twice_areas day (neighbours (r ∷ (front ++ p ∷ []))))
    (twice_areas day (neighbours (p ∷ back))) (areas_split day (r ∷ front) back p)

pub seconds_split : (day : DayParts) (front back : List Point) (p : Point)
    → sum_by (pair_seconds day) (neighbours (front ++ p ∷ back)) ≡ sum_by (pair_seconds day) (neighbours (front ++ p ∷ [])) + sum_by (pair_seconds day) (neighbours (p ∷ back))
seconds_split day [] back p = omega arith
seconds_split day (q ∷ []) back p =
    let whole = sum_by-cons (pair_seconds day) (q, p) (neighbours (p ∷ back)) in
    let first = sum_by-cons (pair_seconds day) (q, p) [] in
    omega (arith, whole, first)
seconds_split day (q ∷ r ∷ front) back p =
    let whole = sum_by-cons (pair_seconds day) (q, r) (neighbours (r ∷ (front ++ p ∷ back))) in
    let first = sum_by-cons (pair_seconds day) (q, r) (neighbours (r ∷ (front ++ p ∷ []))) in
    let rest = seconds_split day (r ∷ front) back p in
    omega (arith, whole, first, rest)
