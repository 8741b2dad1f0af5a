-- The lines of a text, those behind so many, and a text by its first byte.
use Rattle.std.specs.Prelude.{◌≡◌, ◌≤◌, List, [], ◌∷◌, ℕ, zero, suc, ◌+◌, ◌-◌, drop, take, length, slice_index_or}
use Rattle.std.proofs.Common.{arith, refl, ap, sym}
use Rattle.std.proofs.lemmas.List.{take_all}
use Rattle.rating_tables.specs.Lines.{lines_of}

pub no_lines : (text : List ℕ) → length text ≡ 0 → lines_of text ≡ []
unfolding lines_of
no_lines [] h = refl
no_lines (b ∷ text) h = absurd (omega arith)

next_after : {X : Type 0} (passed : ℕ) (all : List X) (first : X) (rest : List X) → first ∷ rest ≡ drop passed all → rest ≡ drop (suc passed) all
next_after zero [] first rest e = absurd (cc)
next_after zero (x ∷ all) first rest e = cc
next_after (suc passed) [] first rest e = absurd (cc)
next_after (suc passed) (x ∷ all) first rest e = next_after passed all first rest e

none_after : {X : Type 0} (passed : ℕ) (all : List X) → [] ≡ drop passed all → [] ≡ drop (suc passed) all
none_after zero [] e = refl
none_after zero (x ∷ all) e = absurd (cc)
none_after (suc passed) [] e = refl
none_after (suc passed) (x ∷ all) e = none_after passed all e

pub next_behind : {X : Type 0} (passed : ℕ) (all : List X) (first : X) (rest : List X) → first ∷ rest ≡ drop passed all → rest ≡ drop (passed + 1) all
next_behind passed all first rest e =
    let next : suc passed ≡ passed + 1 = omega arith in
    rw next at (next_after passed all first rest e)

pub none_behind : {X : Type 0} (passed : ℕ) (all : List X) → [] ≡ drop passed all → [] ≡ drop (passed + 1) all
none_behind passed all e =
    let next : suc passed ≡ passed + 1 = omega arith in
    rw next at (none_after passed all e)

-- a text that is not empty is its first byte and what is behind it
pub split_first : (text : List ℕ) → 1 ≤ length text → text ≡ slice_index_or text 0 0 ∷ take (length text - 1) (drop 1 text)
split_first [] h = absurd (omega arith)
split_first (b ∷ text) h = ap (λ (l : List ℕ). b ∷ l) (sym (take_all (length (b ∷ text) - 1) text (omega arith)))
