-- What an RDB text of a rating is read as: the rows of a table, or its first fault with lines taken in order.
use Rattle.std.specs.Prelude.{◌≡◌, ℕ, suc, Bool, true, false, ◌&&◌, ◌==◌, if◌then◌else◌, List, [], ◌∷◌, ◌++◌, length, reverse, Option, None, Some, option_map, Result, Ok, Err, ℤ, pos, int_lt, int_le, codes}
use Rattle.std.specs.Ordering.{int_eq}
use Rattle.std.specs.Result.{result_ok}
use Rattle.std.specs.Str.{bytes_eq}
use Rattle.csv.specs.Machine.{Read, next_record}
use Rattle.csv.specs.Reading.{strip_bom}
use Rattle.csv.specs.Records.{field_at}
use Rattle.csv.specs.declared.parser.Config.{Config}
use Rattle.csv.specs.declared.parser.State.TheVariants as state
use Rattle.csv.specs.declared.parser.Terminator.TheVariants as terminator
use Rattle.fixed_units.specs.Decimals.{decimal_of}
use Rattle.fixed_units.specs.Quantities.{is_stage, is_discharge, is_amount}
use Rattle.rating_tables.specs.declared.rdb.RdbFault.{RdbFault}
use Rattle.rating_tables.specs.declared.rdb.RdbFault.TheVariants as faults
use Rattle.rating_tables.specs.declared.rdb_rows.Columns.{Columns}
use Rattle.rating_tables.specs.Lines.{kept_lines}
use Rattle.rating_tables.specs.Table.{Row, is_off_count}

-- tabs part the fields, nothing is quoted, and a record ends at LF alone
abbrev pub tab_config : Config
tab_config =
    record { delimiter = 9; quote = 34; escape = None; double_quote = true; quoting = false; comment = None; terminator = terminator.Any 10 }

-- the fields of what was read, none where nothing was
abbrev pub fields_read : Option Read → List (List ℕ)
fields_read None = []
fields_read (Some read) = read.0

-- the fields that the crate `csv` states for a line
abbrev pub fields : List ℕ → List (List ℕ)
fields line = fields_read (next_record tab_config state.StartRecord [] [] line)

-- those of a text from the start of a field on, and those behind the tab that ends a field, if one does
abbrev pub fields_from : List ℕ → List (List ℕ)
fields_from text = fields_read (next_record tab_config state.StartField [] [] text)

abbrev pub fields_behind : Option (List ℕ) → List (List ℕ)
fields_behind None = []
fields_behind (Some text) = fields_from text

-- the place of the first column of a name
abbrev pub column : List ℕ → List (List ℕ) → Option ℕ
column name [] = None
column name (first ∷ names) = if bytes_eq first name then Some 0 else option_map suc (column name names)

-- whether there is a field that is this text
abbrev pub is_field : List ℕ → Option (List ℕ) → Bool
is_field text None = false
is_field text (Some field) = bytes_eq field text

-- the columns that are read, where the two that are needed are there
abbrev pub columns_from : Option ℕ → Option ℕ → Option ℕ → Option Columns
columns_from None discharge shift = None
columns_from (Some stage) None shift = None
columns_from (Some stage) (Some discharge) shift = Some (record { stage = stage; discharge = discharge; shift = shift })

abbrev pub columns_of : List (List ℕ) → Option Columns
columns_of names = columns_from (column (codes "INDEP") names) (column (codes "DEP") names) (column (codes "SHIFT") names)

-- a field without the spaces at its start, and without those at both ends
abbrev pub skip_spaces : List ℕ → List ℕ
skip_spaces [] = []
skip_spaces (b ∷ field) = if b == 32 then skip_spaces field else b ∷ field

abbrev pub trimmed : List ℕ → List ℕ
trimmed field = reverse (skip_spaces (reverse (skip_spaces field)))

-- a quantity in a range that a text states, if it states one
abbrev pub within : (ℤ → Bool) → Option ℤ → Option ℤ
within is_in None = None
within is_in (Some n) = if is_in n then Some n else None

abbrev pub quantity : (ℤ → Bool) → List ℕ → Option ℤ
quantity is_in text = within is_in (result_ok (decimal_of text))

abbrev pub stage_in : Option (List ℕ) → Option ℤ
stage_in None = None
stage_in (Some field) = quantity is_stage (trimmed field)

abbrev pub discharge_in : Option (List ℕ) → Option ℤ
discharge_in None = None
discharge_in (Some field) = quantity is_discharge (trimmed field)

-- a shift that is empty is 0
abbrev pub shift_text : List ℕ → Option ℤ
shift_text [] = Some (pos 0)
shift_text (b ∷ text) = quantity is_amount (b ∷ text)

-- one that is not reached is 0 too
abbrev pub shift_in : Option (List ℕ) → Option ℤ
shift_in None = Some (pos 0)
shift_in (Some field) = shift_text (trimmed field)

-- the field at a place, if there is such a place and a field there
abbrev pub field_in : Option ℕ → List (List ℕ) → Option (List ℕ)
field_in None fields = None
field_in (Some place) fields = field_at fields place

-- a row of three numbers, of which the shift has to be 0
abbrev pub row_from : ℕ → Option ℤ → Option ℤ → Option ℤ → Result Row RdbFault
row_from number None discharge shift = Err (faults.Number number)
row_from number (Some stage) None shift = Err (faults.Number number)
row_from number (Some stage) (Some discharge) None = Err (faults.Number number)
row_from number (Some stage) (Some discharge) (Some shift) =
    if int_eq shift (pos 0) then Ok (stage, discharge) else Err (faults.Shift number)

-- the row of a line
abbrev pub row_of : Columns → ℕ → List (List ℕ) → Result Row RdbFault
row_of columns number fields =
    row_from number (stage_in (field_at fields columns.stage)) (discharge_in (field_at fields columns.discharge))
    (shift_in (field_in columns.shift fields))

-- a row behind another one, above which its stage has to rise and below which its discharge may not fall
abbrev pub behind : ℕ → Option Row → Row → Result Row RdbFault
behind number None row = Ok row
behind number (Some before) row =
    if int_lt before.0 row.0 && int_le before.1 row.1 then Ok row else Err (faults.Order number)

abbrev pub behind_read : ℕ → Option Row → Result Row RdbFault → Result Row RdbFault
behind_read number before (Err fault) = Err fault
behind_read number before (Ok row) = behind number before row

-- the row of a line behind the row before it
abbrev pub next_row : Columns → Option Row → ℕ × List ℕ → Result Row RdbFault
next_row columns before line = behind_read line.0 before (row_of columns line.0 (fields line.1))

-- rows with others in front
abbrev pub rows_in_front : List Row → Result (List Row) RdbFault → Result (List Row) RdbFault
rows_in_front front (Err fault) = Err fault
rows_in_front front (Ok rows) = Ok (front ++ rows)

-- a row, and those that follow it
abbrev pub and_rows : Result Row RdbFault → (Row → Result (List Row) RdbFault) → Result (List Row) RdbFault
and_rows (Err fault) following = Err fault
and_rows (Ok row) following = rows_in_front (row ∷ []) (following row)

-- the rows of lines, or the fault of the first line that has one
unfoldable pub rows_of : Columns → Option Row → List (ℕ × List ℕ) → Result (List Row) RdbFault
rows_of columns before [] = Ok []
rows_of columns before (line ∷ lines) =
    and_rows (next_row columns before line) (λ row. rows_of columns (Some row) lines)

-- a table has 2 to 10,000 rows
abbrev pub counted : Result (List Row) RdbFault → Result (List Row) RdbFault
counted (Err fault) = Err fault
counted (Ok rows) = if is_off_count (length rows) then Err faults.Count else Ok rows

abbrev pub rows_under : Option Columns → ℕ → List (ℕ × List ℕ) → Result (List Row) RdbFault
rows_under None number lines = Err (faults.NoColumn number)
rows_under (Some columns) number lines = counted (rows_of columns None lines)

-- the first line names the columns, the second gives their formats, and the others are rows
abbrev pub rows_in : List (ℕ × List ℕ) → Result (List Row) RdbFault
rows_in [] = Err faults.NoNames
rows_in (names ∷ []) = Err faults.NoNames
rows_in (names ∷ formats ∷ lines) = rows_under (columns_of (fields names.1)) names.0 lines

-- what a text is read as, without the byte order mark at its start
abbrev pub rdb_of : List ℕ → Result (List Row) RdbFault
rdb_of text = rows_in (kept_lines 0 (strip_bom text))

-- rows that were read: how many there are, and all of them where so many were kept
abbrev pub AreRead : Result (List Row) RdbFault → List Row → ℕ → Type 0
AreRead (Err fault) kept count = ⊥
AreRead (Ok rows) kept count = (length rows ≡ count) × (length kept ≡ count → kept ≡ rows)

-- the line of a fault, 0 where it is none of a line
abbrev pub line_of : RdbFault → ℕ
line_of faults.NoNames = 0
line_of (faults.NoColumn line) = line
line_of (faults.Number line) = line
line_of (faults.Shift line) = line
line_of (faults.Order line) = line
line_of faults.Count = 0
line_of faults.NoMemory = 0
