-- Rows that are read have stages and discharges in their ranges.
use Rattle.std.specs.Prelude.{◌≡◌, Bool, true, false, cond, ◌&&◌, List, [], ◌∷◌, ℕ, ℤ, pos, int_lt, int_le, Option, None, Some, Result, Ok, Err, IfOk, length, All}
use Rattle.std.specs.Ordering.{int_eq}
use Rattle.std.specs.Result.{result_ok}
use Rattle.std.proofs.Common.{refl, ap, sym, ◌∙◌, subst}
use Rattle.std.proofs.lemmas.Bool.{and_parts}
use Rattle.std.proofs.lemmas.List.Elements.{All-cons, All-nil}
use Rattle.csv.specs.Records.{field_at}
use Rattle.fixed_units.specs.Decimals.{decimal_of}
use Rattle.fixed_units.specs.Quantities.{IsStage, IsDischarge, IsWithin, is_stage, is_discharge, is_within}
use Rattle.rising.proofs.Parting.{yes_le}
use Rattle.rating_tables.specs.declared.rdb.RdbFault.{RdbFault}
use Rattle.rating_tables.specs.declared.rdb.RdbFault.TheVariants as faults
use Rattle.rating_tables.specs.declared.rdb_rows.Columns.{Columns}
use Rattle.rating_tables.specs.Table.{Row, IsRating, IsRatingRow, is_off_count}
use Rattle.rating_tables.proofs.RdbLemmas.{read_in_order}
use Rattle.rating_tables.proofs.TableLemmas.{in_order_table}
use Rattle.rating_tables.specs.Rdb.{AreRead, rows_of, next_row, and_rows, rows_in_front, behind_read, row_from, row_of, fields, trimmed, within, stage_in, discharge_in, shift_in, field_in}

in_range : (least greatest n : ℤ) → is_within least greatest n ≡ true → IsWithin least greatest n
in_range least greatest n e = let p = and_parts _ _ e in record { low = yes_le _ _ p.0; high = yes_le _ _ p.1 }

-- a quantity that is read is in its range
within_passes : (is_in : ℤ → Bool) (o : Option ℤ) (n : ℤ) → within is_in o ≡ Some n → is_in n ≡ true
within_passes is_in None n e = absurd (cc)
within_passes is_in (Some m) n e = by (is_in m) refl e
  where
    by : (b : Bool) → is_in m ≡ b → cond b (Some m) None ≡ Some n → is_in n ≡ true
    by true is e = let same : m ≡ n = cc in ap is_in (sym same) ∙ is
    by false is e = absurd (cc)

stage_is : (field : Option (List ℕ)) (n : ℤ) → stage_in field ≡ Some n → IsStage n
stage_is None n e = absurd (cc)
stage_is (Some field) n e = in_range _ _ n (within_passes is_stage (result_ok (decimal_of (trimmed field))) n e)

discharge_is : (field : Option (List ℕ)) (n : ℤ) → discharge_in field ≡ Some n → IsDischarge n
discharge_is None n e = absurd (cc)
discharge_is (Some field) n e = in_range _ _ n (within_passes is_discharge (result_ok (decimal_of (trimmed field))) n e)

-- a row of three numbers is one of the first two
from_is : (number : ℕ) (stage discharge shift : Option ℤ) (row : Row) → ((n : ℤ) → stage ≡ Some n → IsStage n) → ((n : ℤ) → discharge ≡ Some n → IsDischarge n)
    → row_from number stage discharge shift ≡ Ok row → IsRatingRow row
from_is number None discharge shift row h k e = absurd (cc)
from_is number (Some stage) None shift row h k e = absurd (cc)
from_is number (Some stage) (Some discharge) None row h k e = absurd (cc)
from_is number (Some stage) (Some discharge) (Some shift) row h k e = by (int_eq shift (pos 0)) e
  where
    by : (b : Bool) → cond {A = Result Row RdbFault} b (Ok (stage, discharge)) (Err (faults.Shift number)) ≡ Ok row → IsRatingRow row
    by true e = let same : (stage, discharge) ≡ row = cc in subst IsRatingRow same (record { stage = h stage refl; discharge = k discharge refl })
    by false e = absurd (cc)

behind_is : (number : ℕ) (before : Option Row) (x : Result Row RdbFault) (row : Row) → ((r : Row) → x ≡ Ok r → IsRatingRow r) → behind_read number before x ≡ Ok row → IsRatingRow row
behind_is number before (Err fault) row h e = absurd (cc)
behind_is number None (Ok r) row h e = h row e
behind_is number (Some b) (Ok r) row h e = by (int_lt b.0 r.0 && int_le b.1 r.1) e
  where
    by : (c : Bool) → cond {A = Result Row RdbFault} c (Ok r) (Err (faults.Order number)) ≡ Ok row → IsRatingRow row
    by true e = h row e
    by false e = absurd (cc)

row_is : (c : Columns) (before : Option Row) (line : ℕ × List ℕ) (row : Row) → next_row c before line ≡ Ok row → IsRatingRow row
row_is c before line row e =
    behind_is line.0 before (row_of c line.0 (fields line.1)) row
    (λ r f. from_is line.0 (stage_in (field_at (fields line.1) c.stage)) (discharge_in (field_at (fields line.1) c.discharge)) (shift_in (field_in c.shift (fields line.1))) r
    (λ n g. stage_is (field_at (fields line.1) c.stage) n g) (λ n g. discharge_is (field_at (fields line.1) c.discharge) n g) f) e

more_in_range : (x : Result Row RdbFault) (following : Row → Result (List Row) RdbFault) (rows : List Row)
    → ((row : Row) → x ≡ Ok row → IsRatingRow row) → ((row : Row) (rest : List Row) → following row ≡ Ok rest → All IsRatingRow rest)
    → and_rows x following ≡ Ok rows → All IsRatingRow rows
more_in_range (Err fault) following rows h k e = absurd (cc)
more_in_range (Ok row) following rows h k e = by (following row) refl e
  where
    by : (z : Result (List Row) RdbFault) → following row ≡ z → rows_in_front (row ∷ []) z ≡ Ok rows → All IsRatingRow rows
    by (Err fault) s e = absurd (cc)
    by (Ok rest) s e =
        let whole : row ∷ rest ≡ rows = cc in
        subst (All IsRatingRow) whole (All-cons IsRatingRow row rest (h row refl) (k row rest s))

rows_in_range : (c : Columns) (before : Option Row) (lines : List (ℕ × List ℕ)) (rows : List Row) → rows_of c before lines ≡ Ok rows → All IsRatingRow rows
unfolding rows_of
rows_in_range c before [] rows e = let none : [] ≡ rows = cc in subst (All IsRatingRow) none (All-nil IsRatingRow)
rows_in_range c before (line ∷ lines) rows e =
    more_in_range (next_row c before line) (λ row. rows_of c (Some row) lines) rows (row_is c before line) (λ row rest f. rows_in_range c (Some row) lines rest f) e

read_rows_in_range : (x : Result (List Row) RdbFault) (kept : List Row) (count : ℕ) → ((rows : List Row) → x ≡ Ok rows → All IsRatingRow rows) → AreRead x kept count
    → length kept ≡ count → All IsRatingRow kept
read_rows_in_range (Err fault) kept count h k e = absurd k
read_rows_in_range (Ok rows) kept count h k e = subst (All IsRatingRow) (sym (k.1 e)) (h rows refl)

-- the rows of lines are in range, where all of them were kept
pub read_in_range : (c : Columns) (lines : List (ℕ × List ℕ)) (kept : List Row) (count : ℕ) → AreRead (rows_of c None lines) kept count → length kept ≡ count → All IsRatingRow kept
read_in_range c lines kept count h e = read_rows_in_range (rows_of c None lines) kept count (λ rows f. rows_in_range c None lines rows f) h e

-- and the table that is made of them is a rating's
pub read_rating : {E : Type 0} (c : Columns) (lines : List (ℕ × List ℕ)) (kept : List Row) (count : ℕ) (r : Result (List Row) E) → AreRead (rows_of c None lines) kept count
    → IfOk r (λ table. (is_off_count count ≡ false) × (length kept ≡ count) × (table ≡ kept)) → IfOk r IsRating
read_rating c lines kept count (Err fault) h k = tt
read_rating c lines kept count (Ok table) h k =
    subst IsRating (sym k.2)
    (record {
      table = in_order_table kept (ap is_off_count k.1 ∙ k.0) (read_in_order c lines kept count h k.1);
      ranges = read_in_range c lines kept count h k.1;
    })
