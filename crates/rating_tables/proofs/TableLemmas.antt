-- Tables: rows without a fault are in order, and where the first fault of rows lies.
use Rattle.std.specs.Prelude.{◌≡◌, Bool, true, false, cond, List, [], ◌∷◌, ℕ, suc, ◌-◌, ◌<◌, ◌≤◌, ℤ, ◌<ℤ◌, ◌≤ℤ◌, int_lt, int_le, Option, None, Some, drop, length, All, AllPairs}
use Rattle.std.specs.List.Sorted.{IsPartitionedBy}
use Rattle.std.proofs.Common.{arith, refl, ap, sym, ◌∙◌, get_or, inl, inr, drop-cons}
use Rattle.std.proofs.Math.Nat.{eq-or-lt_of_le}
use Rattle.std.proofs.lemmas.Int.{ints}
use Rattle.std.proofs.lemmas.List.{length-drop}
use Rattle.std.proofs.lemmas.List.Elements.{All-cons, All-weaker}
use Rattle.std.proofs.lemmas.List.Kept.{AllPairs-cons}
use Rattle.rating_tables.specs.declared.table.TableFault.{TableFault}
use Rattle.rating_tables.specs.declared.table.TableFault.TheVariants.{Count, NotRising, Falling}
use Rattle.rating_tables.specs.Table.{Row, IsInOrder, IsTable, fault_behind, or_else, is_off_count, order_fault, table_fault}
use Rattle.rising.proofs.Parting.{lt_yes, yes_lt}

-- one row behind another
abbrev pub IsBelow : Row → Row → Type 0
IsBelow r s = r.0 <ℤ s.0

abbrev pub IsNoMore : Row → Row → Type 0
IsNoMore r s = r.1 ≤ℤ s.1

pub record IsBehind (r s : Row) : Type 0 where
  pub rising : r.0 <ℤ s.0
  pub never_falling : r.1 ≤ℤ s.1

none_step : (i : ℕ) (r s : Row) (later : Option TableFault) (b c : Bool) → int_le s.0 r.0 ≡ b → int_lt s.1 r.1 ≡ c
    → or_else (cond b (Some (NotRising i)) (cond c (Some (Falling i)) None)) later ≡ None → IsBehind r s × (later ≡ None)
none_step i r s later true c e f h = absurd (cc)
none_step i r s later false true e f h = absurd (cc)
none_step i r s later false false e f h = (record { rising = omega (arith, ints); never_falling = omega (arith, ints) }, h)

pub none_behind : (i : ℕ) (r s : Row) (later : Option TableFault) → or_else (fault_behind i r s) later ≡ None → IsBehind r s × (later ≡ None)
none_behind i r s later h = none_step i r s later (int_le s.0 r.0) (int_lt s.1 r.1) refl refl h

below_through : (r s : Row) (rows : List Row) → r.0 <ℤ s.0 → AllPairs IsBelow (s ∷ rows) → All (IsBelow r) (s ∷ rows)
below_through r s rows h k =
    let first : All (IsBelow s) rows = λ i d l. k 0 (suc i) d (omega arith) (omega arith) in
    All-cons (IsBelow r) s rows h (All-weaker (IsBelow s) (IsBelow r) (λ t m. omega (arith, ints)) rows first)

no_more_through : (r s : Row) (rows : List Row) → r.1 ≤ℤ s.1 → AllPairs IsNoMore (s ∷ rows) → All (IsNoMore r) (s ∷ rows)
no_more_through r s rows h k =
    let first : All (IsNoMore s) rows = λ i d l. k 0 (suc i) d (omega arith) (omega arith) in
    All-cons (IsNoMore r) s rows h (All-weaker (IsNoMore s) (IsNoMore r) (λ t m. omega (arith, ints)) rows first)

pub in_order_step : (r s : Row) (rows : List Row) → IsBehind r s → IsInOrder (s ∷ rows) → IsInOrder (r ∷ s ∷ rows)
in_order_step r s rows h k =
    record {
      rising = AllPairs-cons IsBelow r (s ∷ rows) (below_through r s rows h.rising k.rising) k.rising;
      never_falling = AllPairs-cons IsNoMore r (s ∷ rows) (no_more_through r s rows h.never_falling k.never_falling) k.never_falling;
    }

-- rows without a fault are in order
pub none_in_order : (i : ℕ) (rows : List Row) → order_fault i rows ≡ None → IsInOrder rows
none_in_order i [] h = record { rising = λ j k d l m. absurd (omega arith); never_falling = λ j k d l m. absurd (omega arith) }
none_in_order i (r ∷ []) h = record { rising = λ j k d l m. absurd (omega arith); never_falling = λ j k d l m. absurd (omega arith) }
none_in_order i (r ∷ s ∷ rows) h =
    let parts = none_behind (suc i) r s (order_fault (suc i) (s ∷ rows)) h in
    in_order_step r s rows parts.0 (none_in_order (suc i) (s ∷ rows) parts.1)

pub in_order_table : (rows : List Row) → is_off_count (length rows) ≡ false → IsInOrder rows → IsTable rows
in_order_table rows e order = record { most = grind arith; least = grind arith; order = order }

table_step : (rows : List Row) (b : Bool) → (is_off_count (length rows)) ≡ b
    → cond b (Some Count) (order_fault 0 rows) ≡ None → IsTable rows
table_step rows true e h = absurd (cc)
table_step rows false e h = in_order_table rows e (none_in_order 0 rows h)

pub none_table : (rows : List Row) → table_fault rows ≡ None → IsTable rows
none_table rows h = table_step rows (is_off_count (length rows)) refl h

-- the fault of rows from a place on
order_from : (k : ℕ) (rows : List Row) (d e : Row) → suc k < length rows
    → order_fault k (drop k rows) ≡ or_else (fault_behind (suc k) (get_or rows k d) (get_or rows (suc k) e)) (order_fault (suc k) (drop (suc k) rows))
order_from k rows d e h =
    let first = drop-cons rows k d (omega arith) in
    let second = drop-cons rows (suc k) e (omega arith) in
    rw (first, second) refl

pub order_at : (i : ℕ) (rows : List Row) (d e : Row) → 0 < i → i < length rows
    → order_fault (i - 1) (drop (i - 1) rows) ≡ or_else (fault_behind i (get_or rows (i - 1) d) (get_or rows i e)) (order_fault i (drop i rows))
order_at i rows d e h k =
    let same : suc (i - 1) ≡ i = omega arith in
    rw same at (order_from (i - 1) rows d e (omega arith))

-- by a number that never falls, no element has more than one from it on
never_more : {X : Type 0} (n : X → ℤ) (xs : List X) → AllPairs (λ x y. n x ≤ℤ n y) xs → (i j : ℕ) (d : X) → i ≤ j → j < length xs
    → n (get_or xs i d) ≤ℤ n (get_or xs j d)
never_more n xs h i j d l m = elim (eq-or-lt_of_le l) [ inl e ↦ rw e (omega (arith, ints)) | inr e ↦ h i j d e m ]

-- and it is parted by the test of a binary search
pub parted_short : {X : Type 0} (n : X → ℤ) (at : ℤ) (xs : List X) → AllPairs (λ x y. n x ≤ℤ n y) xs → IsPartitionedBy (λ x. int_lt (n x) at) xs
parted_short n at xs h i j d l m e =
    let k = never_more n xs h i j d l m in
    let f = yes_lt (n (get_or xs j d)) at e in
    lt_yes (n (get_or xs i d)) at (omega (arith, ints))

one_left : (k : ℕ) (rows : List Row) → length rows ≤ 1 → order_fault k rows ≡ None
one_left k [] h = refl
one_left k (r ∷ []) h = refl
one_left k (r ∷ s ∷ rows) h = absurd (omega arith)

pub order_end : (k : ℕ) (rows : List Row) → length rows ≤ suc k → order_fault k (drop k rows) ≡ None
order_end k rows h = one_left k (drop k rows) (omega (arith, length-drop k rows))

-- a turn of the search for the first fault
pub fault_found : (i : ℕ) (rows : List Row) (r s : Row) (fault : TableFault) → 0 < i → i < length rows → r ≡ get_or rows (i - 1) r → s ≡ get_or rows i s
    → fault_behind i r s ≡ Some fault → order_fault (i - 1) (drop (i - 1) rows) ≡ Some fault
fault_found i rows r s fault h k e f found =
    order_at i rows r s h k ∙ ap (λ (t : Row). or_else (fault_behind i t (get_or rows i s)) (order_fault i (drop i rows))) (sym e)
    ∙ ap (λ (t : Row). or_else (fault_behind i r t) (order_fault i (drop i rows))) (sym f)
    ∙ ap (λ o. or_else o (order_fault i (drop i rows))) found

pub fault_passed : (i : ℕ) (rows : List Row) (r s : Row) → 0 < i → i < length rows → r ≡ get_or rows (i - 1) r → s ≡ get_or rows i s
    → fault_behind i r s ≡ None → order_fault (i - 1) (drop (i - 1) rows) ≡ order_fault i (drop i rows)
fault_passed i rows r s h k e f none =
    order_at i rows r s h k ∙ ap (λ (t : Row). or_else (fault_behind i t (get_or rows i s)) (order_fault i (drop i rows))) (sym e)
    ∙ ap (λ (t : Row). or_else (fault_behind i r t) (order_fault i (drop i rows))) (sym f)
    ∙ ap (λ o. or_else o (order_fault i (drop i rows))) none
