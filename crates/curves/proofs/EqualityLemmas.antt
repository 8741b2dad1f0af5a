-- The tests of equality decide it.
use Rattle.std.specs.Prelude.{◌≡◌, Bool, true, false, ◌&&◌, ◌==◌, ◌+◌, ◌<◌, ◌≤◌, ℕ, List, [], ◌∷◌, length, drop, get_or, ℤ}
use Rattle.std.specs.Bool.{Decides}
use Rattle.std.specs.Ordering.{int_eq}
use Rattle.std.specs.Cmp.Lexicographic.{pointwise}
use Rattle.std.proofs.Common.{refl, ap, sym, ◌∙◌, arith, add-one, drop-cons}
use Rattle.std.proofs.lemmas.Grind.{common_steps}
use Rattle.std.proofs.lemmas.List.{drop_all}
use Rattle.std.proofs.lemmas.Bool.Decides.{Decides-int_eq, Decides-and, Decides-like}
use Rattle.std.proofs.lemmas.Slice.Eq.{slice_eq-Decides}
use Rattle.curves.specs.declared.entries.Entry.{Entry}
use Rattle.curves.specs.Equality.{same_point, same_mark, same_entry, same_entries}

points_decide : (p q : ℤ × ℤ) → Decides (same_point p q) (p ≡ q)
points_decide p q =
    Decides-like (same_point p q) (λ h. paired p q h.0 h.1) (λ e. (ap (λ (x : ℤ × ℤ). x.0) e, ap (λ (x : ℤ × ℤ). x.1) e))
    (Decides-and (int_eq p.0 q.0) (int_eq p.1 q.1) (Decides-int_eq p.0 q.0) (Decides-int_eq p.1 q.1))
  where
    paired : (p q : ℤ × ℤ) → p.0 ≡ q.0 → p.1 ≡ q.1 → p ≡ q
    paired p q e f = let k : ◌≡◌ {A = ℤ × ℤ} (p.0, p.1) (q.0, q.1) = rw (e, f) refl in k

marks_decide : (b c : Bool) → Decides (same_mark b c) (b ≡ c)
marks_decide true true = (λ h. refl, λ e. refl)
marks_decide true false = (λ h. absurd (cc), λ e. absurd (cc))
marks_decide false true = (λ h. absurd (cc), λ e. absurd (cc))
marks_decide false false = (λ h. refl, λ e. refl)

same_parts : (e f : Entry) → e.at ≡ f.at → e.curve ≡ f.curve → e.prorate ≡ f.prorate → e ≡ f
same_parts e f a b c =
    let k : ◌≡◌ {A = Entry} (record { at = e.at; curve = e.curve; prorate = e.prorate }) (record { at = f.at; curve = f.curve; prorate = f.prorate }) = rw (a, b, c) refl in
    k

-- two entries are one where each of their parts is, by any tests that decide
parts_decide : (e f : Entry) (b c : Bool) → Decides b (e.curve ≡ f.curve) → Decides c (e.prorate ≡ f.prorate)
    → Decides (int_eq e.at f.at && (b && c)) (e ≡ f)
parts_decide e f b c h k =
    Decides-like (int_eq e.at f.at && (b && c))
    (λ p. same_parts e f p.0 p.1.0 p.1.1)
    (λ i. (ap (λ (x : Entry). x.at) i, (ap (λ (x : Entry). x.curve) i, ap (λ (x : Entry). x.prorate) i)))
    (Decides-and (int_eq e.at f.at) (b && c) (Decides-int_eq e.at f.at) (Decides-and b c h k))

pub entries_decide : (e f : Entry) → Decides (same_entry e f) (e ≡ f)
entries_decide e f =
    parts_decide e f (pointwise same_point e.curve f.curve) (same_mark e.prorate f.prorate)
    (slice_eq-Decides points_decide e.curve f.curve (pointwise same_point e.curve f.curve) refl) (marks_decide e.prorate f.prorate)

pub lists_decide : (es fs : List Entry) → Decides (same_entries es fs) (es ≡ fs)
lists_decide es fs = slice_eq-Decides entries_decide es fs (same_entries es fs) refl

-- a list is compared entry by entry
same_first : (e f : Entry) (es fs : List Entry) (b : Bool) → b ≡ same_entry e f → b ≡ true → same_entries (e ∷ es) (f ∷ fs) ≡ same_entries es fs
same_first e f es fs b h k = ap (λ (x : Bool). x && same_entries es fs) (sym h ∙ k)

pub rest_same : (e f : Entry) (list rest es : List Entry) (b : Bool) → list ≡ f ∷ rest → b ≡ same_entry e f → b ≡ true → same_entries (e ∷ es) list ≡ same_entries es rest
rest_same e f list rest es b l h k = ap (λ (x : List Entry). same_entries (e ∷ es) x) l ∙ same_first e f es rest b h k

pub rest_other : (e : Entry) (list es : List Entry) → ((f : Entry) (rest : List Entry) → list ≡ f ∷ rest → same_entry e f ≡ false) → same_entries (e ∷ es) list ≡ false
rest_other e [] es h = refl
rest_other e (f ∷ fs) es h = ap (λ (x : Bool). x && same_entries es fs) (h f fs refl)

drop-entry : (es : List Entry) (i : ℕ) (e : Entry) → i < length es → e ≡ get_or es i e → drop i es ≡ e ∷ drop (i + 1) es
drop-entry es i e h f = let step = drop-cons es i e in rw add-one (cc (step h))

-- a step of the comparison, and its end
pub same_step : (es fs rest left : List Entry) (i : ℕ) (e : Entry) → i < length es → e ≡ get_or es i e
    → same_entries (drop i es) rest ≡ same_entries es fs
    → ((others : List Entry) → same_entries (e ∷ others) rest ≡ same_entries others left)
    → same_entries (drop (i + 1) es) left ≡ same_entries es fs
same_step es fs rest left i e h f k step =
    sym (step (drop (i + 1) es)) ∙ ap (λ (x : List Entry). same_entries x rest) (sym (drop-entry es i e h f)) ∙ k

pub same_stopped : (es fs rest : List Entry) (i : ℕ) (e : Entry) → i < length es → e ≡ get_or es i e
    → same_entries (drop i es) rest ≡ same_entries es fs
    → ((others : List Entry) → same_entries (e ∷ others) rest ≡ false) → false ≡ same_entries es fs
same_stopped es fs rest i e h f k stop =
    sym (stop (drop (i + 1) es)) ∙ ap (λ (x : List Entry). same_entries x rest) (sym (drop-entry es i e h f)) ∙ k

pub none_left : (rest : List Entry) → (length rest == 0) ≡ same_entries [] rest
none_left [] = refl
none_left (r ∷ rs) = grind (arith, common_steps)

pub same_ended : (es fs rest : List Entry) (i : ℕ) (b : Bool) → length es ≤ i → same_entries (drop i es) rest ≡ same_entries es fs
    → b ≡ (length rest == 0) → b ≡ same_entries es fs
same_ended es fs rest i b h k e = e ∙ none_left rest ∙ ap (λ (x : List Entry). same_entries x rest) (sym (drop_all i es h)) ∙ k
