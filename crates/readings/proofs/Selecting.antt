-- What `find` gives where all or none of a list passes, and `filter` across reversals.
use Rattle.rising.proofs.Selecting.{none_found, All-reverse}
use Rattle.std.specs.Prelude.{◌≡◌, ℕ, suc, ◌≤◌, Bool, true, false, cond, ◌&&◌, List, [], ◌∷◌, ◌++◌, filter, length, find, reverse, Option, Some, None, All, MatchOption}
use Rattle.std.proofs.Common.{refl, ap, sym, ◌∙◌, arith}
use Rattle.std.proofs.lemmas.Grind.{reverse_onto}
use Rattle.std.proofs.lemmas.List.{append-nil, reverse-reverse}
use Rattle.std.proofs.lemmas.List.Elements.{All-head, All-tail, All-cons, All-nil, filter-append}

pub find_none : {X : Type 0} (p : X → Bool) (xs : List X) → All (λ x. p x ≡ false) xs → find p xs ≡ None
find_none p [] h = refl
find_none p (x ∷ xs) h =
    let e = All-head (λ x. p x ≡ false) x xs h in
    rw e (find_none p xs (All-tail (λ x. p x ≡ false) x xs h))

both_step : {X : Type 0} (p : X → Bool) (x : X) (b c : Bool) → p x ≡ b → (o : Option X) (zs : List X) → o ≡ find p zs
    → cond (b && c) (Some x) o ≡ find p (cond c (x ∷ zs) zs)
both_step p x true true e o zs h = rw e refl
both_step p x true false e o zs h = h
both_step p x false true e o zs h = rw e h
both_step p x false false e o zs h = h

-- the elements that pass two tests are those that pass one of those that pass the other
pub find_both : {X : Type 0} (p q : X → Bool) (xs : List X) → find (λ x. p x && q x) xs ≡ find p (filter q xs)
find_both p q [] = refl
find_both p q (x ∷ xs) = both_step p x (p x) (q x) refl (find (λ x. p x && q x) xs) (filter q xs) (find_both p q xs)

pub reverse-cons : {X : Type 0} (x : X) (xs : List X) → reverse (x ∷ xs) ≡ reverse xs ++ x ∷ []
reverse-cons x xs = reverse_onto xs x []

reverse_step : {X : Type 0} (x : X) (b : Bool) (ys zs : List X) → reverse ys ≡ zs
    → reverse (cond b (x ∷ ys) ys) ≡ zs ++ cond b (x ∷ []) []
reverse_step x true ys zs h = reverse-cons x ys ∙ ap (λ l. l ++ x ∷ []) h
reverse_step x false ys zs h = h ∙ sym (append-nil zs)

pub reverse-filter : {X : Type 0} (p : X → Bool) (xs : List X) → reverse (filter p xs) ≡ filter p (reverse xs)
reverse-filter p [] = refl
reverse-filter p (x ∷ xs) =
    let e = reverse-cons x xs in
    let f = filter-append p (reverse xs) (x ∷ []) in
    rw (e, f) (reverse_step x (p x) (filter p xs) (filter p (reverse xs)) (reverse-filter p xs))

kept_step : {X : Type 0} (P : X → Type 0) (b : Bool) (x : X) (o : Option X) → P x → MatchOption o (Unit {0}) P
    → MatchOption (cond b (Some x) o) (Unit {0}) P
kept_step P true x o h k = h
kept_step P false x o h k = k

-- what is found is of the list, and passes
pub find_kept : {X : Type 0} (P : X → Type 0) (p : X → Bool) (xs : List X) → All P xs → MatchOption (find p xs) (Unit {0}) P
find_kept P p [] h = tt
find_kept P p (x ∷ xs) h = kept_step P (p x) x (find p xs) (All-head P x xs h) (find_kept P p xs (All-tail P x xs h))

passes_step : {X : Type 0} (P : X → Type 0) (b : Bool) (x : X) (o : Option X) → (b ≡ true → P x) → MatchOption o (Unit {0}) P
    → MatchOption (cond b (Some x) o) (Unit {0}) P
passes_step P true x o h k = h refl
passes_step P false x o h k = k

-- what is found passes
pub find_passes : {X : Type 0} (p : X → Bool) (xs : List X) → MatchOption (find p xs) (Unit {0}) (λ x. p x ≡ true)
find_passes p [] = tt
find_passes p (x ∷ xs) = passes_step (λ x. p x ≡ true) (p x) x (find p xs) (λ e. e) (find_passes p xs)

-- where a filter keeps nothing, nothing passes
none_kept_step : {X : Type 0} (p : X → Bool) (x : X) (xs : List X) (b : Bool) → p x ≡ b → cond b (x ∷ filter p xs) (filter p xs) ≡ []
    → (filter p xs ≡ [] → All (λ x. p x ≡ false) xs) → All (λ x. p x ≡ false) (x ∷ xs)
none_kept_step p x xs true e h k = absurd (cc)
none_kept_step p x xs false e h k = All-cons (λ x. p x ≡ false) x xs e (k h)

pub none_kept : {X : Type 0} (p : X → Bool) (xs : List X) → filter p xs ≡ [] → All (λ x. p x ≡ false) xs
none_kept p [] h = All-nil (λ x. p x ≡ false)
none_kept p (x ∷ xs) h = none_kept_step p x xs (p x) refl h (none_kept p xs)

-- none is found from the one end where none is found from the other
pub none_back : {X : Type 0} (p : X → Bool) (xs : List X) → find p xs ≡ None → find p (reverse xs) ≡ None
none_back p xs e = find_none p (reverse xs) (All-reverse (λ x. p x ≡ false) xs (none_found p xs e))

pub none_front : {X : Type 0} (p : X → Bool) (xs : List X) → find p (reverse xs) ≡ None → find p xs ≡ None
none_front p xs e = ap (find p) (sym (reverse-reverse xs)) ∙ none_back p (reverse xs) e

fewer_step : {X : Type 0} (b : Bool) (x : X) (ys zs : List X) → length ys ≤ length zs → length (cond b (x ∷ ys) ys) ≤ suc (length zs)
fewer_step true x ys zs h = omega (arith, h)
fewer_step false x ys zs h = omega (arith, h)

fewer : {X : Type 0} (p : X → Bool) (xs : List X) → length (filter p xs) ≤ length xs
fewer p [] = omega arith
fewer p (x ∷ xs) = fewer_step (p x) x (filter p xs) xs (fewer p xs)

whole_step : {X : Type 0} (b : Bool) (x : X) (ys zs : List X) → length ys ≤ length zs → (length ys ≡ length zs → ys ≡ zs)
    → length (cond b (x ∷ ys) ys) ≡ suc (length zs) → cond b (x ∷ ys) ys ≡ x ∷ zs
whole_step true x ys zs few same h =
    let more : length (x ∷ ys) ≡ suc (length ys) = refl in
    ap (λ l. x ∷ l) (same (omega (arith, more, h)))
whole_step false x ys zs few same h = absurd (omega (arith, few, h))

-- where as many pass as there are, all do
pub filter-whole : {X : Type 0} (p : X → Bool) (xs : List X) → length (filter p xs) ≡ length xs → filter p xs ≡ xs
filter-whole p [] h = refl
filter-whole p (x ∷ xs) h = whole_step (p x) x (filter p xs) xs (fewer p xs) (filter-whole p xs) h
