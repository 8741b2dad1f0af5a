-- Rows of two quantities, each of its kind.
use Rattle.std.proofs.Common.{◌≡◌, Bool, true, false, List, ℤ, All, Option, Some, None, option_and_then, if◌then◌else◌, refl, sym, ap, ◌∙◌, subst}
use Rattle.std.proofs.lemmas.Bool.{and_parts}
use Rattle.civil_days.specs.Spelling.{only}
use Rattle.edit_bodies.proofs.EachLemmas.{each-holds}
use Rattle.edit_bodies.specs.Grammars.{each_of, pair_in, pair_of, quantity_of}
use Rattle.fixed_units.specs.Quantities.{IsWithin, is_within}
use Rattle.rising.proofs.Parting.{yes_le}
use Rattle.serde_json.specs.Data.{Data, Items, no_items, item}
use Rattle.serde_json.specs.Find.{as_array}

pub within : (least greatest n : ℤ) → is_within least greatest n ≡ true → IsWithin least greatest n
within least greatest n e = let p = and_parts _ _ e in record { low = yes_le _ _ p.0; high = yes_le _ _ p.1 }

-- a number that is only of a kind is of it
pub of_kind : (kind : ℤ → Bool) (o : Option ℤ) (n : ℤ) → only kind o ≡ Some n → kind n ≡ true
of_kind kind None n e = absurd cc
of_kind kind (Some m) n e = by (kind m) refl e
  where
    by : (b : Bool) → kind m ≡ b → (if b then Some m else None) ≡ Some n → kind n ≡ true
    by true is e = let same : m ≡ n = cc in ap kind (sym same) ∙ is
    by false is e = absurd cc

-- pairs that hold what two quantities of these kinds give
module _ (kind other : ℤ → Bool) (P : ℤ × ℤ → Type 0) (holds : (p : ℤ × ℤ) → kind p.0 ≡ true → other p.1 ≡ true → P p) where
  abbrev pair : Items → Option (ℤ × ℤ)
  pair = pair_in (λ value. only kind (quantity_of value)) (λ value. only other (quantity_of value))

  of_numbers : (first second : Option ℤ) (p : ℤ × ℤ) → pair_of (only kind first) (only other second) ≡ Some p → P p
  of_numbers first second p e = by (only kind first) (only other second) refl refl e
    where
      by : (f s : Option ℤ) → only kind first ≡ f → only other second ≡ s → pair_of f s ≡ Some p → P p
      by None s is it e = absurd cc
      by (Some f) None is it e = absurd cc
      by (Some f) (Some s) is it e =
          let same : (f, s) ≡ p = cc in
          subst P same (holds (f, s) (of_kind kind first f is) (of_kind other second s it))

  of_row : (row : Items) (p : ℤ × ℤ) → pair row ≡ Some p → P p
  of_row no_items p e = absurd cc
  of_row (item first no_items) p e = absurd cc
  of_row (item first (item second no_items)) p e = of_numbers (quantity_of first) (quantity_of second) p e
  of_row (item first (item second (item more rest))) p e = absurd cc

  of_value : (value : Data) (p : ℤ × ℤ) → option_and_then pair (as_array value) ≡ Some p → P p
  of_value value p e = by (as_array value) e
    where
      by : (o : Option Items) → option_and_then pair o ≡ Some p → P p
      by None e = absurd cc
      by (Some row) e = of_row row p e

  -- each pair that is read holds it
  pub each_pair : (rows : Items) (ps : List (ℤ × ℤ)) → each_of (λ value. option_and_then pair (as_array value)) rows ≡ Some ps → All P ps
  each_pair rows ps e = each-holds (λ value. option_and_then pair (as_array value)) P of_value rows ps e
