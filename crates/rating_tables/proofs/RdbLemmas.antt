-- Rows that are read line by line: what is left to read, that the rows are in order, and the table that they make.
use Rattle.std.specs.Prelude.{◌≡◌, Bool, true, false, cond, ◌&&◌, List, [], ◌∷◌, ◌++◌, ℕ, ◌+◌, ◌≤◌, int_lt, int_le, Option, None, Some, unwrap_or, Result, Ok, Err, length, ◌⊎◌}
use Rattle.std.specs.Result.{result_err}
use Rattle.std.proofs.Common.{arith, refl, ap, sym, ◌∙◌, subst, inl, inr}
use Rattle.std.proofs.lemmas.Int.{ints}
use Rattle.std.proofs.lemmas.List.{append-nil, append_assoc, length-append}
use Rattle.rating_tables.specs.declared.rdb.RdbFault.{RdbFault}
use Rattle.rating_tables.specs.declared.rdb.RdbFault.TheVariants as faults
use Rattle.rating_tables.specs.declared.rdb_rows.Columns.{Columns}
use Rattle.rating_tables.specs.Table.{Row, IsInOrder, is_off_count}
use Rattle.rating_tables.specs.Rdb.{AreRead, rows_in, rows_under, columns_of, rows_of, next_row, and_rows, rows_in_front, behind_read, row_of, fields, counted}
use Rattle.rating_tables.proofs.TableLemmas.{IsBehind, in_order_step}

-- a line that has a row, and one that has a fault
pub rows_more : (c : Columns) (before : Option Row) (line : ℕ × List ℕ) (lines : List (ℕ × List ℕ)) (r : Row) → next_row c before line ≡ Ok r
    → rows_of c before (line ∷ lines) ≡ rows_in_front (r ∷ []) (rows_of c (Some r) lines)
unfolding rows_of
rows_more c before line lines r h = ap (λ x. and_rows x (λ row. rows_of c (Some row) lines)) h

pub rows_fault : (c : Columns) (before : Option Row) (line : ℕ × List ℕ) (lines : List (ℕ × List ℕ)) (f : RdbFault) → next_row c before line ≡ Err f
    → rows_of c before (line ∷ lines) ≡ Err f
unfolding rows_of
rows_fault c before line lines f h = ap (λ x. and_rows x (λ row. rows_of c (Some row) lines)) h

pub rows_end : (c : Columns) (before : Option Row) → rows_of c before [] ≡ Ok []
unfolding rows_of
rows_end c before = refl

front_twice : (done : List Row) (r : Row) (x : Result (List Row) RdbFault) → rows_in_front done (rows_in_front (r ∷ []) x) ≡ rows_in_front (done ++ r ∷ []) x
front_twice done r (Ok rows) = ap (λ l. Ok l) (sym (append_assoc done (r ∷ []) rows))
front_twice done r (Err f) = refl

-- rows that were read of lines, in front of those that are left, and all of them where so many were kept
pub record Reads (c : Columns) (all : List (ℕ × List ℕ)) (kept : List Row) (count : ℕ) (before : Option Row) (left : List (ℕ × List ℕ)) : Type 0 where
  pub done : List Row
  pub rows : rows_of c None all ≡ rows_in_front done (rows_of c before left)
  pub counted : length done ≡ count
  pub few : length kept ≤ count
  pub whole : length kept ≡ count → kept ≡ done

abbrev Adds : List Row → ℕ → Row → List Row → Type 0
Adds kept count row more = ((length kept ≡ count) × (more ≡ kept ++ row ∷ [])) ⊎ (more ≡ kept)

few_more : (kept : List Row) (count : ℕ) (row : Row) (more : List Row) → Adds kept count row more → length kept ≤ count → length more ≤ count + 1
few_more kept count row more (inl (e, f)) h = omega (arith, length-append kept (row ∷ []), ap length f)
few_more kept count row more (inr f) h = let g = ap length f in omega arith

whole_more : (kept done : List Row) (count : ℕ) (row : Row) (more : List Row) → Adds kept count row more → length kept ≤ count → (length kept ≡ count → kept ≡ done)
    → length more ≡ count + 1 → more ≡ done ++ row ∷ []
whole_more kept done count row more (inl (e, f)) h k n = f ∙ ap (λ l. l ++ row ∷ []) (k e)
whole_more kept done count row more (inr f) h k n = absurd (let g = ap length f in omega arith)

pub reads_next : (c : Columns) (all : List (ℕ × List ℕ)) (kept : List Row) (count : ℕ) (before : Option Row) (left : List (ℕ × List ℕ)) (line : ℕ × List ℕ) (behind : List (ℕ × List ℕ)) (row : Row) (more : List Row)
    → Reads c all kept count before left → left ≡ line ∷ behind → next_row c before line ≡ Ok row → Adds kept count row more → Reads c all more (count + 1) (Some row) behind
reads_next c all kept count before left line behind row more h e r added =
    record {
      done = h.done ++ row ∷ [];
      rows = h.rows ∙ ap (λ ls. rows_in_front h.done (rows_of c before ls)) e ∙ ap (rows_in_front h.done) (rows_more c before line behind row r) ∙ front_twice h.done row (rows_of c (Some row) behind);
      counted = (let n = h.counted in omega (arith, length-append h.done (row ∷ [])));
      few = few_more kept count row more added h.few;
      whole = whole_more kept h.done count row more added h.few h.whole;
    }

pub reads_fault : (c : Columns) (all : List (ℕ × List ℕ)) (kept : List Row) (count : ℕ) (before : Option Row) (left : List (ℕ × List ℕ)) (line : ℕ × List ℕ) (behind : List (ℕ × List ℕ)) (f : RdbFault)
    → Reads c all kept count before left → left ≡ line ∷ behind → next_row c before line ≡ Err f → rows_of c None all ≡ Err f
reads_fault c all kept count before left line behind f h e row =
    h.rows ∙ ap (λ ls. rows_in_front h.done (rows_of c before ls)) e ∙ ap (rows_in_front h.done) (rows_fault c before line behind f row)

pub reads_end : (c : Columns) (all : List (ℕ × List ℕ)) (kept : List Row) (count : ℕ) (before : Option Row) (left : List (ℕ × List ℕ))
    → Reads c all kept count before left → left ≡ [] → AreRead (rows_of c None all) kept count
reads_end c all kept count before left h e =
    let whole : rows_of c None all ≡ Ok h.done =
    h.rows ∙ ap (λ ls. rows_in_front h.done (rows_of c before ls)) e ∙ ap (rows_in_front h.done) (rows_end c before) ∙ ap (λ l. Ok l) (append-nil h.done) in
    subst (λ x. AreRead x kept count) (sym whole) (h.counted, h.whole)

-- rows that are read are in order
abbrev pub IsInOrderBehind : Option Row → List Row → Type 0
IsInOrderBehind None rows = IsInOrder rows
IsInOrderBehind (Some b) rows = IsInOrder (b ∷ rows)

no_rows : (before : Option Row) → IsInOrderBehind before []
no_rows None = record { rising = λ j k d l m. absurd (omega arith); never_falling = λ j k d l m. absurd (omega arith) }
no_rows (Some b) = record { rising = λ j k d l m. absurd (omega arith); never_falling = λ j k d l m. absurd (omega arith) }

abbrev Follows : Option Row → Row → Type 0
Follows None row = Unit {0}
Follows (Some b) row = IsBehind b row

behind_step : (n : ℕ) (b r row : Row) (x y : Bool) → int_lt b.0 r.0 ≡ x → int_le b.1 r.1 ≡ y
    → cond {A = Result Row RdbFault} (x && y) (Ok r) (Err (faults.Order n)) ≡ Ok row → IsBehind b row
behind_step n b r row true true e f h =
    let same : r ≡ row = cc in
    subst (IsBehind b) same (record { rising = omega (arith, ints); never_falling = omega (arith, ints) })
behind_step n b r row true false e f h = absurd (cc)
behind_step n b r row false y e f h = absurd (cc)

behind_follows : (n : ℕ) (before : Option Row) (x : Result Row RdbFault) (row : Row) → behind_read n before x ≡ Ok row → Follows before row
behind_follows n None x row h = tt
behind_follows n (Some b) (Err f) row h = absurd (cc)
behind_follows n (Some b) (Ok r) row h = behind_step n b r row (int_lt b.0 r.0) (int_le b.1 r.1) refl refl h

in_order_behind : (before : Option Row) (row : Row) (rows : List Row) → Follows before row → IsInOrder (row ∷ rows) → IsInOrderBehind before (row ∷ rows)
in_order_behind None row rows h k = k
in_order_behind (Some b) row rows h k = in_order_step b row rows h k

ordered_step : (c : Columns) (before : Option Row) (line : ℕ × List ℕ) (lines : List (ℕ × List ℕ)) (rows : List Row)
    → ((row : Row) (rest : List Row) → rows_of c (Some row) lines ≡ Ok rest → IsInOrder (row ∷ rest)) → (x : Result Row RdbFault) → next_row c before line ≡ x
    → (y : (row : Row) → Result (List Row) RdbFault) → ((row : Row) → y row ≡ rows_of c (Some row) lines)
    → and_rows x y ≡ Ok rows → IsInOrderBehind before rows
ordered_step c before line lines rows ih (Err f) e y same h = absurd (cc)
ordered_step c before line lines rows ih (Ok row) e y same h = by (y row) (same row) h
  where
    by : (z : Result (List Row) RdbFault) → z ≡ rows_of c (Some row) lines → rows_in_front (row ∷ []) z ≡ Ok rows → IsInOrderBehind before rows
    by (Err f) s k = absurd (cc)
    by (Ok rest) s k =
        let whole : row ∷ rest ≡ rows = cc in
        subst (IsInOrderBehind before) whole (in_order_behind before row rest (behind_follows line.0 before (row_of c line.0 (fields line.1)) row e) (ih row rest (sym s)))

pub rows_in_order : (c : Columns) (before : Option Row) (lines : List (ℕ × List ℕ)) (rows : List Row) → rows_of c before lines ≡ Ok rows → IsInOrderBehind before rows
unfolding rows_of
rows_in_order c before [] rows h = let none : [] ≡ rows = cc in subst (IsInOrderBehind before) none (no_rows before)
rows_in_order c before (line ∷ lines) rows h =
    ordered_step c before line lines rows (λ row rest k. rows_in_order c (Some row) lines rest k) (next_row c before line) refl (λ row. rows_of c (Some row) lines) (λ row. refl) h

read_order : (x : Result (List Row) RdbFault) (kept : List Row) (count : ℕ) → ((rows : List Row) → x ≡ Ok rows → IsInOrder rows) → AreRead x kept count
    → length kept ≡ count → IsInOrder kept
read_order (Err f) kept count h k e = absurd k
read_order (Ok rows) kept count h k e = subst IsInOrder (sym (k.1 e)) (h rows refl)

-- the rows of lines are in order, where all of them were kept
pub read_in_order : (c : Columns) (lines : List (ℕ × List ℕ)) (kept : List Row) (count : ℕ) → AreRead (rows_of c None lines) kept count → length kept ≡ count → IsInOrder kept
read_in_order c lines kept count h e = read_order (rows_of c None lines) kept count (λ rows f. rows_in_order c None lines rows f) h e

counted_told : (rows : List Row) (b : Bool) → is_off_count (length rows) ≡ b → cond b faults.Count faults.NoMemory ≡ unwrap_or (result_err (counted (Ok rows))) faults.NoMemory
counted_told rows true e = rw e refl
counted_told rows false e = rw e refl

-- the rows under a line of names and a line of formats
pub table_of : (lines : List (ℕ × List ℕ)) (names formats : ℕ × List ℕ) (rest : List (ℕ × List ℕ)) (c : Columns) → lines ≡ names ∷ formats ∷ rest
    → Some c ≡ columns_of (fields names.1) → counted (rows_of c None rest) ≡ rows_in lines
table_of lines names formats rest c e f = sym (ap rows_in e ∙ ap (λ o. rows_under o names.0 rest) (sym f))
