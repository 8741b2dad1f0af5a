-- The rows of a rating where they stand in a payload: their order, and whether they are a rating's.
use Rattle.std.specs.Prelude.{◌≡◌, Bool, true, false, ◌&&◌, List, [], ◌∷◌, ℕ, suc, ◌+◌, ◌<◌, ◌≤◌, ◌<ℤ◌, ◌≤ℤ◌, int_lt, int_le, length, All, None}
use Rattle.std.specs.List.{AllAdjacentBelow, IsAllAdjacentAnswer}
use Rattle.std.proofs.Common.{arith, refl, sym, subst, ◌∙◌, ◌↔◌, get_or}
use Rattle.std.proofs.lemmas.Bool.{and_parts}
use Rattle.std.proofs.lemmas.Bool.Decides.{nat_tests}
use Rattle.std.proofs.lemmas.Int.{ints}
use Rattle.std.proofs.lemmas.List.{get_or-map, length-map}
use Rattle.std.proofs.lemmas.List.Elements.{All-map}
use Rattle.rising.proofs.Parting.{lt_yes, le_yes, yes_lt, yes_le}
use Rattle.rating_tables.specs.declared.table.TheConstants.{LEAST_ROWS, MOST_ROWS}
use Rattle.rating_tables.specs.Table.{Row, IsInOrder, IsRating, IsRatingRow, IsTable, is_off_count, order_fault, table_fault}
use Rattle.rating_tables.proofs.TableLemmas.{IsBehind, in_order_step}
use Rattle.records.specs.Parsing.{row_in, rows_in}

-- ---- order

-- whether the stage rises from a row to the next, and the discharge does not fall
abbrev pub is_behind : Row → Row → Bool
is_behind row next = int_lt row.0 next.0 && int_le row.1 next.1

behind_told : (r s : Row) → true ≡ is_behind r s → IsBehind r s
behind_told r s e =
    let parts = and_parts (int_lt r.0 s.0) (int_le r.1 s.1) (sym e) in
    record { rising = yes_lt r.0 s.0 parts.0; never_falling = yes_le r.1 s.1 parts.1 }

not_behind : (r s : Row) → false ≡ is_behind r s → r.0 <ℤ s.0 → r.1 ≤ℤ s.1 → ⊥
not_behind r s e rising never_falling =
    let first = lt_yes r.0 s.0 rising in
    let second = le_yes r.1 s.1 never_falling in
    let both : is_behind r s ≡ true = rw (first, second) refl in
    let no : false ≡ true = e ∙ both in
    cc

abbrev IsNext : List ℕ → List ℕ → Type 0
IsNext p q = true ≡ is_behind (row_in p) (row_in q)

next_of_rest : (p : List ℕ) (rest : List (List ℕ)) → AllAdjacentBelow IsNext (p ∷ rest) (length (p ∷ rest)) → AllAdjacentBelow IsNext rest (length rest)
next_of_rest p rest h k d below =
    let moved : suc k + 1 ≡ suc (k + 1) = omega arith in
    subst (λ (n : ℕ). IsNext (get_or (p ∷ rest) (suc k) d) (get_or (p ∷ rest) n d)) moved (h (suc k) d (omega arith))

in_order_from : (pieces : List (List ℕ)) → AllAdjacentBelow IsNext pieces (length pieces) → IsInOrder (rows_in pieces)
in_order_from [] h =
    record { rising = λ j k d l m. absurd (omega arith); never_falling = λ j k d l m. absurd (omega arith) }
in_order_from (p ∷ []) h =
    record { rising = λ j k d l m. absurd (omega arith); never_falling = λ j k d l m. absurd (omega arith) }
in_order_from (p ∷ q ∷ rest) h =
    in_order_step (row_in p) (row_in q) (rows_in rest) (behind_told (row_in p) (row_in q) (h 0 p (omega arith))) (in_order_from (q ∷ rest) (next_of_rest p (q ∷ rest) h))

-- a test of neighbours tells whether rows are in order
pub order_told : (pieces : List (List ℕ)) (told : Bool) → IsAllAdjacentAnswer (λ p q b. b ≡ is_behind (row_in p) (row_in q)) pieces told → told ≡ true ↔ IsInOrder (rows_in pieces)
order_told pieces true h = (λ e. in_order_from pieces h, λ order. refl)
order_told pieces false h = (
  λ e. absurd cc,
  λ order.
      let k = h.0 in
      let e : Row = row_in [] in
      let here = get_or-map row_in pieces k [] e (omega (arith, h.1)) in
      let there = get_or-map row_in pieces (k + 1) [] e h.1 in
      let rows : k + 1 < length (rows_in pieces) = omega (arith, h.1, length-map pieces row_in) in
      let rising = order.rising k (k + 1) e (omega arith) rows in
      let never_falling = order.never_falling k (k + 1) e (omega arith) rows in
      absurd (not_behind (row_in (get_or pieces k [])) (row_in (get_or pieces (k + 1) [])) (h.2 []) (rw (here, there) at rising) (rw (here, there) at never_falling)),
)

-- ---- ratings

pub rating_is : (pieces : List (List ℕ)) → LEAST_ROWS ≤ length pieces → length pieces ≤ MOST_ROWS → All (λ p. IsRatingRow (row_in p)) pieces → IsInOrder (rows_in pieces) → IsRating (rows_in pieces)
rating_is pieces least most ranges order =
    record {
      table = record { most = omega (arith, most, length-map pieces row_in); least = omega (arith, least, length-map pieces row_in); order = order };
      ranges = All-map IsRatingRow row_in pieces ranges;
    }

pub rating_counts : (pieces : List (List ℕ)) → IsRating (rows_in pieces) → (LEAST_ROWS ≤ length pieces) × (length pieces ≤ MOST_ROWS)
rating_counts pieces rating =
    (omega (arith, rating.table.least, length-map pieces row_in), omega (arith, rating.table.most, length-map pieces row_in))

pub row_in_range : (pieces : List (List ℕ)) (k : ℕ) (d : List ℕ) → k < length pieces → IsRating (rows_in pieces) → IsRatingRow (row_in (get_or pieces k d))
row_in_range pieces k d below rating =
    subst IsRatingRow (get_or-map row_in pieces k d (row_in d) below) (rating.ranges k (row_in d) (omega (arith, below, length-map pieces row_in)))

pub rating_ranges : (pieces : List (List ℕ)) → IsRating (rows_in pieces) → All (λ p. IsRatingRow (row_in p)) pieces
rating_ranges pieces rating = λ k d below. row_in_range pieces k d below rating

-- ---- tables have no fault

not_true : (b : Bool) → (b ≡ true → ⊥) → b ≡ false
not_true true h = absurd (h refl)
not_true false h = refl

in_order_none : (i : ℕ) (rows : List Row) → IsInOrder rows → order_fault i rows ≡ None
in_order_none i [] order = refl
in_order_none i (r ∷ []) order = refl
in_order_none i (r ∷ s ∷ rows) order =
    let rising : r.0 <ℤ s.0 = order.rising 0 1 r (omega arith) (omega arith) in
    let never_falling : r.1 ≤ℤ s.1 = order.never_falling 0 1 r (omega arith) (omega arith) in
    let higher : int_le s.0 r.0 ≡ false = not_true (int_le s.0 r.0) (λ e. let no = yes_le s.0 r.0 e in omega (arith, ints)) in
    let no_less : int_lt s.1 r.1 ≡ false = not_true (int_lt s.1 r.1) (λ e. let no = yes_lt s.1 r.1 e in omega (arith, ints)) in
    let rest : IsInOrder (s ∷ rows) = record { rising = λ j k d l m. order.rising (suc j) (suc k) d (omega arith) (omega arith); never_falling = λ j k d l m. order.never_falling (suc j) (suc k) d (omega arith) (omega arith) } in
    rw (higher, no_less) (in_order_none (suc i) (s ∷ rows) rest)

-- a table's rows have no fault
pub table_none : (rows : List Row) → IsTable rows → table_fault rows ≡ None
table_none rows table =
    let counted : is_off_count (length rows) ≡ false = in_count (length rows) table.least table.most in
    rw counted (in_order_none 0 rows table.order)
  where
    in_count : (n : ℕ) → LEAST_ROWS ≤ n → n ≤ MOST_ROWS → is_off_count n ≡ false
    in_count n least most = grind (arith, nat_tests)
