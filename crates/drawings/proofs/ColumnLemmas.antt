-- The columns of points, one after another.
use Rattle.std.proofs.Common.{◌≡◌, refl, sym, ap, ◌∙◌, ℕ, suc, ◌+◌, ◌<◌, Bool, true, false, cond, List, [], ◌∷◌, ◌++◌, length, take, drop, append_assoc, arith}
use Rattle.std.specs.Prelude.{slice_index_or}
use Rattle.std.specs.List.{take_while}
use Rattle.std.proofs.lemmas.Bool.Decides.{nat_tests}
use Rattle.std.proofs.lemmas.List.{append-nil}
use Rattle.std.proofs.lemmas.List.Sums.{take_while-cons}
use Rattle.drawings.specs.Columns.{columns, goes_on, in_front, path_text, stroke_text, strokes_of}
use Rattle.drawings.specs.declared.columns.Point.{Point}
use Rattle.drawings.specs.declared.columns.Stroke.{Stroke}

-- a point that goes on at x is at x
pub at_x : (x : ℕ) (q : Point) → goes_on x q ≡ true → q.x ≡ x
at_x x q is = grind (arith, nat_tests)

-- a point in front of a column that goes on at its x, and in front of one that does not
joined_front : (p q : Point) (points : List Point) (behind : List (List Point)) → goes_on p.x q ≡ true
    → in_front p ((q ∷ points) ∷ behind) ≡ (p ∷ q ∷ points) ∷ behind
joined_front p q points behind is = ap (λ b. cond b ((p ∷ q ∷ points) ∷ behind) ((p ∷ []) ∷ (q ∷ points) ∷ behind)) is

parted_front : (p q : Point) (points : List Point) (behind : List (List Point)) → goes_on p.x q ≡ false
    → in_front p ((q ∷ points) ∷ behind) ≡ (p ∷ []) ∷ (q ∷ points) ∷ behind
parted_front p q points behind is = ap (λ b. cond b ((p ∷ q ∷ points) ∷ behind) ((p ∷ []) ∷ (q ∷ points) ∷ behind)) is

-- the points from the front on that pass a test, by recursion
passing : (Point → Bool) → List Point → List Point
passing f [] = []
passing f (p ∷ points) = cond (f p) (p ∷ passing f points) []

passing_is : (f : Point → Bool) (points : List Point) → take_while f points ≡ passing f points
unfolding passing
passing_is f [] = refl
passing_is f (p ∷ points) = take_while-cons f p points ∙ ap (λ (ps : List Point). cond (f p) (p ∷ ps) []) (passing_is f points)

-- what goes on behind the first point of a column is the rest of the column
column_first : (p : Point) (points : List Point)
    → columns (p ∷ points) ≡ (p ∷ passing (goes_on p.x) points) ∷ columns (drop (length (passing (goes_on p.x) points)) points)
unfolding columns passing
column_first p [] = refl
column_first p (q ∷ points) =
    let kept : Bool → List Point = λ b. cond b (q ∷ passing (goes_on p.x) points) [] in
    let first = ap (in_front p) (column_first q points) in
    let goal : Bool → Type 0 = λ b. goes_on p.x q ≡ b → in_front p (columns (q ∷ points)) ≡ (p ∷ kept b) ∷ columns (drop (length (kept b)) (q ∷ points)) in
    let each : (b : Bool) → goal b = λ b. elim b as goal [
      | true ↦ λ is.
          first ∙ joined_front p q _ _ is
          ∙ ap (λ (x : ℕ). (p ∷ q ∷ passing (goes_on x) points) ∷ columns (drop (length (passing (goes_on x) points)) points)) (at_x p.x q is)
      | false ↦ λ is. first ∙ parted_front p q _ _ is ∙ ap (λ (cs : List (List Point)). (p ∷ []) ∷ cs) (sym (column_first q points))
    ] in
    each (goes_on p.x q) refl

-- as many points from the front on as pass a test one after another are those
take_kept : (f : Point → Bool) (points : List Point) → take (length (passing f points)) points ≡ passing f points
unfolding passing
take_kept f [] = refl
take_kept f (p ∷ points) =
    elim (f p) as (λ b. take (length (cond b (p ∷ passing f points) [])) (p ∷ points) ≡ cond b (p ∷ passing f points) [])
    [ true ↦ ap (λ (ps : List Point). p ∷ ps) (take_kept f points) | false ↦ refl ]

-- the first column of points
pub column_cut : (points tail : List Point) (d : Point) (n : ℕ) → 0 < length points → tail ≡ drop 1 points
    → n ≡ length (take_while (goes_on (slice_index_or points 0 d).x) tail)
    → columns points ≡ take (1 + n) points ∷ columns (drop (1 + n) points)
column_cut [] tail d n some end is = absurd (omega (arith, some))
column_cut (p ∷ points) tail d n some end is =
    let next : suc n ≡ 1 + n = omega arith in
    let same : n ≡ length (passing (goes_on p.x) points) =
    is ∙ ap (λ (ps : List Point). length (take_while (goes_on p.x) ps)) end ∙ ap (λ (ps : List Point). length ps) (passing_is (goes_on p.x) points) in
    let kept : take n points ≡ passing (goes_on p.x) points = ap (λ (m : ℕ). take m points) same ∙ take_kept (goes_on p.x) points in
    let cut : columns (p ∷ points) ≡ (p ∷ take n points) ∷ columns (drop n points) =
    column_first p points ∙ ap (λ (m : ℕ). (p ∷ passing (goes_on p.x) points) ∷ columns (drop m points)) (sym same)
    ∙ ap (λ (ps : List Point). (p ∷ ps) ∷ columns (drop n points)) (sym kept) in
    cut ∙ ap (λ (m : ℕ). take m (p ∷ points) ∷ columns (drop m (p ∷ points))) next

-- the path of points is the stroke of their first column and the path of those behind it
pub path_step : (points column behind : List Point) (s : Stroke) → columns points ≡ column ∷ columns behind → strokes_of column ≡ s ∷ []
    → path_text points ≡ stroke_text s ++ path_text behind
path_step points column behind s cut stroke = rw (cut, stroke) refl

-- no points have no path
pub path_none : path_text [] ≡ []
unfolding columns
path_none = refl

-- one column more is drawn
pub path_more : (out next start : List ℕ) (rest column behind points : List Point) (s : Stroke) → columns rest ≡ column ∷ columns behind
    → strokes_of column ≡ s ∷ [] → next ≡ out ++ stroke_text s → out ++ path_text rest ≡ start ++ path_text points
    → next ++ path_text behind ≡ start ++ path_text points
path_more out next start rest column behind points s cut stroke more so_far =
    ap (λ (t : List ℕ). t ++ path_text behind) more ∙ append_assoc out (stroke_text s) (path_text behind)
    ∙ ap (λ (t : List ℕ). out ++ t) (sym (path_step rest column behind s cut stroke)) ∙ so_far

-- all columns are drawn
pub path_done : (out start : List ℕ) (rest points : List Point) → length rest ≡ 0 → out ++ path_text rest ≡ start ++ path_text points
    → out ≡ start ++ path_text points
path_done out start [] points none so_far = sym (append-nil out) ∙ ap (λ (t : List ℕ). out ++ t) (sym path_none) ∙ so_far
path_done out start (p ∷ rest) points none so_far = absurd (omega (arith, none))
