-- Rows with commas between, the first one apart.
use Rattle.std.proofs.Common.{◌≡◌, ◌≤◌, ℕ, ◌-◌, List, [], ◌∷◌, ◌++◌, length, take, drop, get_or, map, flat_map, refl, sym, ap, ◌∙◌, arith}
use Rattle.std.proofs.lemmas.List.{append_assoc, append-nil, take_all}
use Rattle.ledger.specs.Figures.{joined}

module _ {A R : Type 0} (row : A → R) (spelled : R → List ℕ) where
  abbrev text : A → List ℕ
  text x = spelled (row x)

  -- what is written of others is the text of each behind a comma
  pub others : (xs : List A) → flat_map (λ (other : List ℕ). 44 ∷ other) (map spelled (map row xs)) ≡ flat_map (λ x. 44 ∷ text x) xs
  others [] = refl
  others (x ∷ xs) = ap (λ (l : List ℕ). 44 ∷ text x ++ l) (others xs)

  pub no_rows : (out : List ℕ) (xs : List A) → length xs ≡ 0 → out ≡ out ++ joined (map spelled (map row xs))
  no_rows out [] h = sym (append-nil out)
  no_rows out (x ∷ xs) h = absurd (omega arith)

  pub rows_joined : (out one all : List ℕ) (xs : List A) (first : A) → 1 ≤ length xs → first ≡ get_or xs 0 first → one ≡ out ++ text first
      → all ≡ one ++ flat_map (λ x. 44 ∷ text x) (take (length xs - 1) (drop 1 xs)) → all ≡ out ++ joined (map spelled (map row xs))
  rows_joined out one all [] first h is e f = absurd (omega arith)
  rows_joined out one all (x ∷ xs) first h is e f =
      let rest : take (length (x ∷ xs) - 1) (drop 1 (x ∷ xs)) ≡ xs = take_all (length (x ∷ xs) - 1) xs (omega arith) in
      f
      ∙ ap (λ (rs : List A). one ++ flat_map (λ x. 44 ∷ text x) rs) rest
      ∙ ap (λ (l : List ℕ). l ++ flat_map (λ x. 44 ∷ text x) xs) (e ∙ ap (λ (y : A). out ++ text y) is)
      ∙ append_assoc out (text x) (flat_map (λ x. 44 ∷ text x) xs)
      ∙ ap (λ (l : List ℕ). out ++ (text x ++ l)) (sym (others xs))
