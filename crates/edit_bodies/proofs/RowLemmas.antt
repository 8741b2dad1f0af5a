-- Rows of pairs, and rows of points.
use Rattle.std.proofs.Common.{◌≡◌, List, [], ◌∷◌, length, get_or, ℤ, Option, Some, None, option_map, option_and_then, refl, sym, ap, ◌∙◌, arith}
use Rattle.std.specs.Option.{option_zip}
use Rattle.edit_bodies.specs.Grammars.{curve_if, each_of, pair_in, pair_of, point_of}
use Rattle.edit_bodies.specs.Trees.{Tree, stated, items_stated}
use Rattle.serde_json.specs.Data.{Data, Items, item, no_items}

-- the items of a row of one, of two and of three
pub one_item : (vs : List Tree) (a : Tree) → length vs ≡ 1 → a ≡ get_or vs 0 a → item (stated a) no_items ≡ items_stated vs
one_item [] a count is = absurd (omega (arith, count))
one_item (v ∷ []) a count is = ap (λ (t : Tree). item (stated t) no_items) is
one_item (v ∷ w ∷ vs) a count is = absurd (omega (arith, count))

pub two_items : (vs : List Tree) (a b : Tree) → length vs ≡ 2 → a ≡ get_or vs 0 a → b ≡ get_or vs 1 b → item (stated a) (item (stated b) no_items) ≡ items_stated vs
two_items [] a b count is it = absurd (omega (arith, count))
two_items (v ∷ []) a b count is it = absurd (omega (arith, count))
two_items (v ∷ w ∷ []) a b count is it =
    ap (λ (t : Tree). item (stated t) (item (stated b) no_items)) is ∙ ap (λ (t : Tree). item (stated v) (item (stated t) no_items)) it
two_items (v ∷ w ∷ u ∷ vs) a b count is it = absurd (omega (arith, count))

pub three_items : (vs : List Tree) (a b c : Tree) → length vs ≡ 3 → a ≡ get_or vs 0 a → b ≡ get_or vs 1 b → c ≡ get_or vs 2 c
    → item (stated a) (item (stated b) (item (stated c) no_items)) ≡ items_stated vs
three_items [] a b c count is it so = absurd (omega (arith, count))
three_items (v ∷ []) a b c count is it so = absurd (omega (arith, count))
three_items (v ∷ w ∷ []) a b c count is it so = absurd (omega (arith, count))
three_items (v ∷ w ∷ u ∷ []) a b c count is it so =
    ap (λ (t : Tree). item (stated t) (item (stated b) (item (stated c) no_items))) is
    ∙ ap (λ (t : Tree). item (stated v) (item (stated t) (item (stated c) no_items))) it
    ∙ ap (λ (t : Tree). item (stated v) (item (stated w) (item (stated t) no_items))) so
three_items (v ∷ w ∷ u ∷ t ∷ vs) a b c count is it so = absurd (omega (arith, count))

-- what is read of both items of a row
zip_pair : (x y : Option ℤ) → option_zip x y ≡ pair_of x y
zip_pair None y = refl
zip_pair (Some x) None = refl
zip_pair (Some x) (Some y) = refl

pub both_read : (read_first read_second : Data → Option ℤ) (a b : Data) (row : Option Items) (x y : Option ℤ) → row ≡ Some (item a (item b no_items)) → x ≡ read_first a → y ≡ read_second b
    → option_zip x y ≡ option_and_then (pair_in read_first read_second) row
both_read read_first read_second a b row x y is first second =
    ap (λ (o : Option ℤ). option_zip o y) first ∙ ap (λ (o : Option ℤ). option_zip (read_first a) o) second ∙ zip_pair (read_first a) (read_second b)
    ∙ ap (option_and_then (pair_in read_first read_second)) (sym is)

-- a row of other than two strings has no pair
pub wrong_pair : (read_first read_second : Data → Option ℤ) (vs : List Tree) → (length vs ≡ 2 → ⊥) → pair_in read_first read_second (items_stated vs) ≡ None
wrong_pair read_first read_second [] other = refl
wrong_pair read_first read_second (a ∷ []) other = refl
wrong_pair read_first read_second (a ∷ b ∷ []) other = absurd (other refl)
wrong_pair read_first read_second (a ∷ b ∷ c ∷ vs) other = refl

four_points : (a b c d : Option (ℤ × ℤ)) (more : Option (List (ℤ × ℤ)))
    → option_and_then curve_if (option_and_then (λ x. option_map (λ xs. x ∷ xs) (option_and_then (λ x. option_map (λ xs. x ∷ xs) (option_and_then (λ x. option_map (λ xs. x ∷ xs) (option_and_then (λ x. option_map (λ xs. x ∷ xs) more) d)) c)) b)) a) ≡ None
four_points None b c d more = refl
four_points (Some p) None c d more = refl
four_points (Some p) (Some q) None d more = refl
four_points (Some p) (Some q) (Some r) None more = refl
four_points (Some p) (Some q) (Some r) (Some s) None = refl
four_points (Some p) (Some q) (Some r) (Some s) (Some ps) = refl

-- other than one to three rows are no curve
pub wrong_points : (vs : List Tree) → (length vs ≡ 1 → ⊥) → (length vs ≡ 2 → ⊥) → (length vs ≡ 3 → ⊥) → option_and_then curve_if (each_of point_of (items_stated vs)) ≡ None
wrong_points [] one two three = refl
wrong_points (a ∷ []) one two three = absurd (one refl)
wrong_points (a ∷ b ∷ []) one two three = absurd (two refl)
wrong_points (a ∷ b ∷ c ∷ []) one two three = absurd (three refl)
wrong_points (a ∷ b ∷ c ∷ d ∷ vs) one two three =
    four_points (point_of (stated a)) (point_of (stated b)) (point_of (stated c)) (point_of (stated d)) (each_of point_of (items_stated vs))
