-- The tests of equality of parts decide it.
use Rattle.std.specs.Prelude.{◌≡◌, Bool, true, false, ◌&&◌, ◌==◌, ◌+◌, ◌<◌, ◌≤◌, ℕ, List, [], ◌∷◌, length, drop, get_or}
use Rattle.std.specs.Bool.{Decides}
use Rattle.std.specs.Ordering.{int_eq}
use Rattle.std.proofs.Common.{refl, ap, sym, ◌∙◌, arith, add-one, drop-cons}
use Rattle.std.proofs.lemmas.Grind.{common_steps}
use Rattle.std.proofs.lemmas.List.{drop_all}
use Rattle.std.proofs.lemmas.Bool.Decides.{Decides-int_eq, Decides-eqb, Decides-and, Decides-like}
use Rattle.std.proofs.lemmas.Slice.Eq.{slice_eq-Decides}
use Rattle.ratings.specs.Parts.{Part}
use Rattle.ratings.specs.PartEquality.{same_part, same_parts}
use Rattle.rating_tables.specs.RowEquality.{same_rows}
use Rattle.rating_tables.proofs.RowLemmas.{rows_decide}

same_members : (p q : Part) → p.from ≡ q.from → p.until ≡ q.until → p.rating ≡ q.rating → p.rows ≡ q.rows → p ≡ q
same_members p q a b c d =
    let k : ◌≡◌ {A = Part} (record { from = p.from; until = p.until; rating = p.rating; rows = p.rows })
    (record { from = q.from; until = q.until; rating = q.rating; rows = q.rows }) = rw (a, b, c, d) refl in
    k

-- two parts are one where their members are, by any tests of the rating and of the rows that decide
members_decide : (p q : Part) (b c : Bool) → Decides b (p.rating ≡ q.rating) → Decides c (p.rows ≡ q.rows)
    → Decides (int_eq p.from q.from && (int_eq p.until q.until && (b && c))) (p ≡ q)
members_decide p q b c h k =
    Decides-like (int_eq p.from q.from && (int_eq p.until q.until && (b && c)))
    (λ m. same_members p q m.0 m.1.0 m.1.1.0 m.1.1.1)
    (λ i. (ap (λ (x : Part). x.from) i, (ap (λ (x : Part). x.until) i, (ap (λ (x : Part). x.rating) i, ap (λ (x : Part). x.rows) i))))
    (Decides-and (int_eq p.from q.from) (int_eq p.until q.until && (b && c)) (Decides-int_eq p.from q.from)
    (Decides-and (int_eq p.until q.until) (b && c) (Decides-int_eq p.until q.until) (Decides-and b c h k)))

pub parts_decide : (p q : Part) → Decides (same_part p q) (p ≡ q)
parts_decide p q =
    members_decide p q (p.rating == q.rating) (same_rows p.rows q.rows) (Decides-eqb p.rating q.rating) (rows_decide p.rows q.rows)

pub lists_decide : (ps qs : List Part) → Decides (same_parts ps qs) (ps ≡ qs)
lists_decide ps qs = slice_eq-Decides parts_decide ps qs (same_parts ps qs) refl

-- a list is compared part by part
same_first : (e f : Part) (es fs : List Part) (b : Bool) → b ≡ same_part e f → b ≡ true → same_parts (e ∷ es) (f ∷ fs) ≡ same_parts es fs
same_first e f es fs b h k = ap (λ (x : Bool). x && same_parts es fs) (sym h ∙ k)

pub rest_same : (e f : Part) (list rest es : List Part) (b : Bool) → list ≡ f ∷ rest → b ≡ same_part e f → b ≡ true → same_parts (e ∷ es) list ≡ same_parts es rest
rest_same e f list rest es b l h k = ap (λ (x : List Part). same_parts (e ∷ es) x) l ∙ same_first e f es rest b h k

pub rest_other : (e : Part) (list es : List Part) → ((f : Part) (rest : List Part) → list ≡ f ∷ rest → same_part e f ≡ false) → same_parts (e ∷ es) list ≡ false
rest_other e [] es h = refl
rest_other e (f ∷ fs) es h = ap (λ (x : Bool). x && same_parts es fs) (h f fs refl)

drop-part : (es : List Part) (i : ℕ) (e : Part) → i < length es → e ≡ get_or es i e → drop i es ≡ e ∷ drop (i + 1) es
drop-part es i e h f = let step = drop-cons es i e in rw add-one (cc (step h))

-- a step of the comparison, and its end
pub same_step : (es fs rest left : List Part) (i : ℕ) (e : Part) → i < length es → e ≡ get_or es i e
    → same_parts (drop i es) rest ≡ same_parts es fs
    → ((others : List Part) → same_parts (e ∷ others) rest ≡ same_parts others left)
    → same_parts (drop (i + 1) es) left ≡ same_parts es fs
same_step es fs rest left i e h f k step =
    sym (step (drop (i + 1) es)) ∙ ap (λ (x : List Part). same_parts x rest) (sym (drop-part es i e h f)) ∙ k

pub same_stopped : (es fs rest : List Part) (i : ℕ) (e : Part) → i < length es → e ≡ get_or es i e
    → same_parts (drop i es) rest ≡ same_parts es fs
    → ((others : List Part) → same_parts (e ∷ others) rest ≡ false) → false ≡ same_parts es fs
same_stopped es fs rest i e h f k stop =
    sym (stop (drop (i + 1) es)) ∙ ap (λ (x : List Part). same_parts x rest) (sym (drop-part es i e h f)) ∙ k

pub none_left : (rest : List Part) → (length rest == 0) ≡ same_parts [] rest
none_left [] = refl
none_left (r ∷ rs) = grind (arith, common_steps)

pub same_ended : (es fs rest : List Part) (i : ℕ) (b : Bool) → length es ≤ i → same_parts (drop i es) rest ≡ same_parts es fs
    → b ≡ (length rest == 0) → b ≡ same_parts es fs
same_ended es fs rest i b h k e = e ∙ none_left rest ∙ ap (λ (x : List Part). same_parts x rest) (sym (drop_all i es h)) ∙ k
