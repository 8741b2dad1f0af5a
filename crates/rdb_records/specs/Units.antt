-- Which readings an RDB text of unit values states, and why a text states none.
use Rattle.std.specs.Prelude.{◌≡◌, ◌<◌, ⊤, ℕ, suc, length, List, [], ◌∷◌, ◌++◌, Option, None, Some, Ok, Err, ℤ}
use Rattle.csv.specs.Reading.{strip_bom}
use Rattle.fixed_units.specs.Quantities.{IsStamp, IsStage, SiteNumber}
use Rattle.fixed_units.specs.declared.readings.Reading.{Reading}
use Rattle.fixed_units.specs.declared.readings.Flag.TheVariants.{Usable}
use Rattle.site_texts.specs.SiteText.{site_text}
use Rattle.rating_tables.specs.Lines.{kept_lines}
use Rattle.rating_tables.specs.Rdb.{fields}
use Rattle.rdb_records.specs.declared.faults.UnitFault.{UnitFault}
use Rattle.rdb_records.specs.declared.faults.UnitFault.TheVariants.{NoNames, NoColumn, Site, Zone, Instant, Order, Range, NoMemory}
use Rattle.rdb_records.specs.declared.rows.Columns.{Columns}
use Rattle.rdb_records.specs.declared.rows.UnitRow.{UnitRow}
use Rattle.rdb_records.specs.declared.units.UnitList.{UnitList}
use Rattle.rdb_records.specs.Rows.{columns_of, row_of}

-- the instant behind which the next row has to stand, after these rows
abbrev pub last_instant : Option ℤ → List UnitRow → Option ℤ
last_instant before [] = before
last_instant before (row ∷ rows) = last_instant (Some row.at) rows

-- lines and their rows, each by itself and against the row before
abbrev pub AreRows : List ℕ → Columns → Option ℤ → List (ℕ × List ℕ) → List UnitRow → Type 0
AreRows site columns before [] [] = ⊤
AreRows site columns before [] (row ∷ rows) = ⊥
AreRows site columns before (line ∷ lines) [] = ⊥
AreRows site columns before (line ∷ lines) (row ∷ rows) =
    (row_of site columns before line ≡ Ok row) × AreRows site columns (Some row.at) lines rows

-- the reading of a row in front of others, where the row has a stage
abbrev pub with_reading : ℤ → Option ℤ → List Reading → List Reading
with_reading at None readings = readings
with_reading at (Some stage) readings = record { at = at; raw = stage; flag = Usable } ∷ readings

-- the readings of rows, all of flag ok
abbrev pub readings_of : List UnitRow → List Reading
readings_of [] = []
readings_of (row ∷ rows) = with_reading row.at row.stage (readings_of rows)

-- one row more is skipped where it has no stage
abbrev pub with_skipped : Option ℤ → ℕ → ℕ
with_skipped None skipped = suc skipped
with_skipped (Some stage) skipped = skipped

-- how many of the rows are skipped
abbrev pub skipped_of : List UnitRow → ℕ
skipped_of [] = 0
skipped_of (row ∷ rows) = with_skipped row.stage (skipped_of rows)

-- the lines of a text that count: the names, the formats and the rows
abbrev pub HasLines : List ℕ → ℕ × List ℕ → ℕ × List ℕ → List (ℕ × List ℕ) → Type 0
HasLines text names formats lines = kept_lines 0 (strip_bom text) ≡ names ∷ formats ∷ lines

-- a text has lines of names and of formats, and among its names are all the columns
pub record HasColumns (column text : List ℕ) (columns : Columns) (lines : List (ℕ × List ℕ)) : Type 0 where
  pub names : ℕ × List ℕ
  pub formats : ℕ × List ℕ
  pub whole : HasLines text names formats lines
  pub found : columns_of column (fields names.1) ≡ Some columns

-- lines of rows are read as the readings of their rows, and how many of them are skipped
pub record AreRead (site : List ℕ) (columns : Columns) (lines : List (ℕ × List ℕ)) (list : UnitList) : Type 0 where
  pub rows : List UnitRow
  pub each : AreRows site columns None lines rows
  pub readings : list.readings ≡ readings_of rows
  pub skipped : list.skipped ≡ skipped_of rows

-- the first of the lines that has a fault, behind lines that have rows
pub record HasFirstFault (site : List ℕ) (columns : Columns) (lines : List (ℕ × List ℕ)) (fault : UnitFault) : Type 0 where
  pub front : List (ℕ × List ℕ)
  pub line : ℕ × List ℕ
  pub behind : List (ℕ × List ℕ)
  pub rows : List UnitRow
  pub whole : lines ≡ front ++ line ∷ behind
  pub each : AreRows site columns None front rows
  pub told : row_of site columns (last_instant None rows) line ≡ Err fault

-- a text states what its rows are read as
pub record IsStated (site : SiteNumber) (column text : List ℕ) (list : UnitList) : Type 0 where
  pub columns : Columns
  pub lines : List (ℕ × List ℕ)
  pub under : HasColumns column text columns lines
  pub read : AreRead (site_text site) columns lines list

-- a text has no line of names or none of formats
abbrev pub LacksNames : List ℕ → Type 0
LacksNames text = length (kept_lines 0 (strip_bom text)) < 2

-- one of the columns is not among the names in that line
pub record LacksColumn (column text : List ℕ) (line : ℕ) : Type 0 where
  pub names : ℕ × List ℕ
  pub formats : ℕ × List ℕ
  pub lines : List (ℕ × List ℕ)
  pub whole : HasLines text names formats lines
  pub missing : columns_of column (fields names.1) ≡ None
  pub told : line ≡ names.0

-- a row of a text has that fault, and no row before it has any
pub record HasFaultyRow (site : SiteNumber) (column text : List ℕ) (fault : UnitFault) : Type 0 where
  pub columns : Columns
  pub lines : List (ℕ × List ℕ)
  pub under : HasColumns column text columns lines
  pub first : HasFirstFault (site_text site) columns lines fault

-- why a text states no readings: its first fault, lines in order
abbrev pub IsRefused : SiteNumber → List ℕ → List ℕ → UnitFault → Type 0
IsRefused site column text NoNames = LacksNames text
IsRefused site column text (NoColumn line) = LacksColumn column text line
IsRefused site column text (Site line) = HasFaultyRow site column text (Site line)
IsRefused site column text (Zone line) = HasFaultyRow site column text (Zone line)
IsRefused site column text (Instant line) = HasFaultyRow site column text (Instant line)
IsRefused site column text (Order line) = HasFaultyRow site column text (Order line)
IsRefused site column text (Range line) = HasFaultyRow site column text (Range line)
IsRefused site column text NoMemory = ⊥

-- a reading as an edit puts it: a stage at a stamp, of flag ok
pub record IsUnitReading (reading : Reading) : Type 0 where
  pub stamp : IsStamp reading.at
  pub stage : IsStage reading.raw
  pub flag : reading.flag ≡ Usable

-- the line of a fault, 0 where it is none of a line
abbrev pub line_of : UnitFault → ℕ
line_of NoNames = 0
line_of (NoColumn line) = line
line_of (Site line) = line
line_of (Zone line) = line
line_of (Instant line) = line
line_of (Order line) = line
line_of (Range line) = line
line_of NoMemory = 0
