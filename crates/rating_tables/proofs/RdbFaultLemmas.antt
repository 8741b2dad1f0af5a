-- No text is read as want of memory.
use Rattle.std.proofs.Common.{◌≢◌, ℕ, Bool, true, false, ◌&&◌, if◌then◌else◌, List, [], ◌∷◌, length, Option, None, Some, Result, Ok, Err, IfErr, ℤ, pos, int_lt, int_le, refl, subst}
use Rattle.std.specs.Ordering.{int_eq}
use Rattle.csv.specs.Records.{field_at}
use Rattle.rating_tables.specs.Rdb.{and_rows, behind, behind_read, columns_of, counted, discharge_in, field_in, fields, next_row, rdb_of, row_from, row_of, rows_in, rows_in_front, rows_of, rows_under, shift_in, stage_in}
use Rattle.rating_tables.specs.Table.{Row, is_off_count}
use Rattle.rating_tables.specs.declared.rdb.RdbFault.{RdbFault}
use Rattle.rating_tables.specs.declared.rdb.RdbFault.TheVariants.{Count, NoMemory, Order, Shift}
use Rattle.rating_tables.specs.declared.rdb_rows.Columns.{Columns}

-- if it is a fault, it is none of memory
abbrev Told : {A : Type 0} → Result A RdbFault → Type 0
Told read = IfErr read (λ fault. fault ≢ NoMemory)

row_told : (number : ℕ) (stage discharge shift : Option ℤ) → Told (row_from number stage discharge shift)
row_told number None discharge shift = λ e. cc
row_told number (Some stage) None shift = λ e. cc
row_told number (Some stage) (Some discharge) None = λ e. cc
row_told number (Some stage) (Some discharge) (Some shift) = by (int_eq shift (pos 0))
  where
    by : (b : Bool) → Told {A = Row} (if b then Ok (stage, discharge) else Err (Shift number))
    by true = tt
    by false = λ e. cc

behind_told : (number : ℕ) (before : Option Row) (row : Row) → Told (behind number before row)
behind_told number None row = tt
behind_told number (Some before) row = by (int_lt before.0 row.0 && int_le before.1 row.1)
  where
    by : (b : Bool) → Told {A = Row} (if b then Ok row else Err (Order number))
    by true = tt
    by false = λ e. cc

behind_read_told : (number : ℕ) (before : Option Row) (row : Result Row RdbFault) → Told row → Told (behind_read number before row)
behind_read_told number before (Ok row) told = behind_told number before row
behind_read_told number before (Err fault) told = told

front_told : (front : List Row) (rows : Result (List Row) RdbFault) → Told rows → Told (rows_in_front front rows)
front_told front (Ok rows) told = tt
front_told front (Err fault) told = told

and_told : (row : Result Row RdbFault) (following : Row → Result (List Row) RdbFault) → Told row → ((r : Row) → Told (following r)) → Told (and_rows row following)
and_told (Ok row) following told further = front_told (row ∷ []) (following row) (further row)
and_told (Err fault) following told further = told

rows_told : (columns : Columns) (before : Option Row) (lines : List (ℕ × List ℕ)) → Told (rows_of columns before lines)
unfolding rows_of
rows_told columns before [] = tt
rows_told columns before (line ∷ lines) =
    and_told (next_row columns before line) (λ row. rows_of columns (Some row) lines)
    (behind_read_told line.0 before (row_of columns line.0 (fields line.1)) (row_told line.0 (stage_in (field_at (fields line.1) columns.stage)) (discharge_in (field_at (fields line.1) columns.discharge)) (shift_in (field_in columns.shift (fields line.1)))))
    (λ row. rows_told columns (Some row) lines)

counted_told : (rows : Result (List Row) RdbFault) → Told rows → Told (counted rows)
counted_told (Err fault) told = told
counted_told (Ok rows) told = by (is_off_count (length rows))
  where
    by : (b : Bool) → Told {A = List Row} (if b then Err Count else Ok rows)
    by true = λ e. cc
    by false = tt

under_told : (columns : Option Columns) (number : ℕ) (lines : List (ℕ × List ℕ)) → Told (rows_under columns number lines)
under_told None number lines = λ e. cc
under_told (Some columns) number lines = counted_told (rows_of columns None lines) (rows_told columns None lines)

in_told : (lines : List (ℕ × List ℕ)) → Told (rows_in lines)
in_told [] = λ e. cc
in_told (names ∷ []) = λ e. cc
in_told (names ∷ formats ∷ lines) = under_told (columns_of (fields names.1)) names.0 lines

rdb_told : (text : List ℕ) → Told (rdb_of text)
rdb_told text = in_told _

pub never_memory : (text : List ℕ) → rdb_of text ≢ Err NoMemory
never_memory text e = subst (λ (read : Result (List Row) RdbFault). Told read) e (rdb_told text) refl
