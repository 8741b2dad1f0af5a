-- What a contract sees of a column.
use Rattle.std.specs.Prelude.{ℕ, List, refl}
use Rattle.std.specs.Coded.{Coded, code_by, coded×, coded_list, coded_ℕ}

-- a list, and for how many more values there is room
pub record Roomy (X : Type 0) : Type 0 where
  pub list : List X
  pub spare : ℕ

module _ {X : Type 0} where
  -- the list with so much room
  abbrev pub with_spare : List X → ℕ → Roomy X
  with_spare xs n = record { list = xs; spare = n }

  -- how proofs store one: as the pair of both
  abbrev pub roomy_code : Coded X → Coded (Roomy X)
  roomy_code c = code_by (List X × ℕ) (coded× (coded_list c) coded_ℕ) (λ r. (r.list, r.spare)) (λ p. with_spare p.0 p.1) (λ _. refl)
