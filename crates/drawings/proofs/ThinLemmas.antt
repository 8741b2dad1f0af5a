-- What thinning by columns keeps.
use Rattle.std.proofs.Common.{◌≡◌, refl, sym, ap, ◌∙◌, subst, inl, inr, ◌⊎◌, ℕ, ◌≤◌, min, max, Bool, true, false, cond, List, [], ◌∷◌, ◌++◌, arith}
use Rattle.std.specs.Prelude.{All, Contains, flat_map, fold}
use Rattle.std.proofs.lemmas.Bool.{cases_lt}
use Rattle.std.proofs.lemmas.List.Elements.{All-nil, All-cons, All-head, All-tail, Contains-append_left, Contains-append_right, Contains-push}
use Rattle.drawings.specs.Columns.{columns, goes_on, heights, in_front, stroke_from}
use Rattle.drawings.specs.Thinning.{IsColumn, Keeps}
use Rattle.drawings.specs.declared.columns.Point.{Point}
use Rattle.drawings.proofs.ColumnLemmas.{at_x}

-- the least of numbers is no more than each of them
low_bounds : (y : ℕ) (hs : List ℕ) → (fold min y hs ≤ y) × All (λ h. fold min y hs ≤ h) hs
low_bounds y [] = (omega arith, All-nil (λ h. y ≤ h))
low_bounds y (h ∷ hs) =
    let rest = low_bounds (min y h) hs in
    (omega (arith, rest.0), All-cons (λ n. fold min (min y h) hs ≤ n) h hs (omega (arith, rest.0)) rest.1)

high_bounds : (y : ℕ) (hs : List ℕ) → (y ≤ fold max y hs) × All (λ h. h ≤ fold max y hs) hs
high_bounds y [] = (omega arith, All-nil (λ h. h ≤ y))
high_bounds y (h ∷ hs) =
    let rest = high_bounds (max y h) hs in
    (omega (arith, rest.0), All-cons (λ n. n ≤ fold max (max y h) hs) h hs (omega (arith, rest.0)) rest.1)

-- an element in front of others that have it, and the first of them
behind : (h : ℕ) (hs : List ℕ) (n : ℕ) → Contains hs n → Contains (h ∷ hs) n
behind h hs n c = Contains-append_right (h ∷ []) hs n c

ahead : (h : ℕ) (hs : List ℕ) → Contains (h ∷ hs) h
ahead h hs = Contains-append_left (h ∷ []) hs h (Contains-push [] h)

-- it is the first number or one of the others
low_reached : (y : ℕ) (hs : List ℕ) → (fold min y hs ≡ y) ⊎ Contains hs (fold min y hs)
low_reached y [] = inl refl
low_reached y (h ∷ hs) =
    elim (low_reached (min y h) hs) [
      | inl e ↦ elim (cases_lt h y) [
        | inl less ↦ let one : h ≡ fold min (min y h) hs = omega (arith, e, less) in inr (subst (Contains (h ∷ hs)) one (ahead h hs))
        | inr more ↦ inl (omega (arith, e, more))
      ]
      | inr c ↦ inr (behind h hs (fold min (min y h) hs) c)
    ]

high_reached : (y : ℕ) (hs : List ℕ) → (fold max y hs ≡ y) ⊎ Contains hs (fold max y hs)
high_reached y [] = inl refl
high_reached y (h ∷ hs) =
    elim (high_reached (max y h) hs) [
      | inl e ↦ elim (cases_lt y h) [
        | inl more ↦ let one : h ≡ fold max (max y h) hs = omega (arith, e, more) in inr (subst (Contains (h ∷ hs)) one (ahead h hs))
        | inr less ↦ inl (omega (arith, e, less))
      ]
      | inr c ↦ inr (behind h hs (fold max (max y h) hs) c)
    ]

-- what is the first or one of the others is one of all
of_all : (y : ℕ) (hs : List ℕ) (n : ℕ) → (n ≡ y) ⊎ Contains hs n → Contains (y ∷ hs) n
of_all y hs n one = elim one [ inl e ↦ subst (Contains (y ∷ hs)) (sym e) (ahead y hs) | inr c ↦ behind y hs n c ]

-- the last of numbers stands behind all others
last_of : (y : ℕ) (hs : List ℕ) → (before : List ℕ) × (y ∷ hs ≡ before ++ fold (λ b h. h) y hs ∷ [])
last_of y [] = ([], refl)
last_of y (h ∷ hs) = let rest = last_of h hs in (y ∷ rest.0, ap (λ (l : List ℕ). y ∷ l) rest.1)

-- a stroke keeps them all
pub keeps : (p : Point) (points : List Point) → Keeps p points (stroke_from p points)
keeps p points =
    let hs = heights points in
    let low = low_bounds p.y hs in
    let high = high_bounds p.y hs in
    record {
      across = refl;
      joined = refl;
      first = refl;
      low = All-cons (λ y. fold min p.y hs ≤ y) p.y hs low.0 low.1;
      low_is = of_all p.y hs (fold min p.y hs) (low_reached p.y hs);
      high = All-cons (λ y. y ≤ fold max p.y hs) p.y hs high.0 high.1;
      high_is = of_all p.y hs (fold max p.y hs) (high_reached p.y hs);
      last = last_of p.y hs;
    }

-- a point in front of columns is in front of their points
front_whole : (p : Point) (cs : List (List Point)) → flat_map (λ c. c) (in_front p cs) ≡ p ∷ flat_map (λ c. c) cs
front_whole p [] = refl
front_whole p ([] ∷ cs) = refl
front_whole p ((q ∷ column) ∷ cs) =
    elim (goes_on p.x q) as (λ b. flat_map (λ c. c) (cond b ((p ∷ q ∷ column) ∷ cs) ((p ∷ []) ∷ (q ∷ column) ∷ cs)) ≡ p ∷ flat_map (λ c. c) ((q ∷ column) ∷ cs))
    [ true ↦ refl | false ↦ refl ]

-- the columns of points are all the points
pub columns_whole : (points : List Point) → flat_map (λ c. c) (columns points) ≡ points
unfolding columns
columns_whole [] = refl
columns_whole (p ∷ points) = front_whole p (columns points) ∙ ap (λ (ps : List Point). p ∷ ps) (columns_whole points)

-- a point alone is a column
alone : (p : Point) → IsColumn (p ∷ [])
alone p = All-nil (λ q. goes_on p.x q ≡ true)

-- a point in front of columns leaves columns
front_columns : (p : Point) (cs : List (List Point)) → All IsColumn cs → All IsColumn (in_front p cs)
front_columns p [] each = All-cons IsColumn (p ∷ []) [] (alone p) each
front_columns p ([] ∷ cs) each = All-cons IsColumn (p ∷ []) cs (alone p) (All-tail IsColumn [] cs each)
front_columns p ((q ∷ column) ∷ cs) each =
    let goal : Bool → Type 0 = λ b. goes_on p.x q ≡ b → All IsColumn (cond b ((p ∷ q ∷ column) ∷ cs) ((p ∷ []) ∷ (q ∷ column) ∷ cs)) in
    let first = All-head IsColumn (q ∷ column) cs each in
    let cases : (b : Bool) → goal b = λ b. elim b as goal [
      | true ↦ λ is.
          All-cons IsColumn (p ∷ q ∷ column) cs
          (All-cons (λ r. goes_on p.x r ≡ true) q column is (subst (λ (x : ℕ). All (λ r. goes_on x r ≡ true) column) (at_x p.x q is) first))
          (All-tail IsColumn (q ∷ column) cs each)
      | false ↦ λ is. All-cons IsColumn (p ∷ []) ((q ∷ column) ∷ cs) (alone p) each
    ] in
    cases (goes_on p.x q) refl

pub columns_each : (points : List Point) → All IsColumn (columns points)
unfolding columns
columns_each [] = All-nil IsColumn
columns_each (p ∷ points) = front_columns p (columns points) (columns_each points)
