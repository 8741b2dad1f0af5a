-- An expanded rating: a table of stages and discharges that is read by straight lines.
use Rattle.std.specs.Prelude.{◌≤◌, ℕ, suc, Bool, ◌||◌, nat_lt, if◌then◌else◌, List, [], ◌∷◌, length, Option, None, Some, ℤ, int_lt, int_le, ◌≤ℤ◌, AllPairs, All}
use Rattle.std.specs.Ordering.{int_eq}
use Rattle.rising.specs.Ends.{first, last}
use Rattle.rising.specs.Lists.{IsRising, before, from, up_to, after}
use Rattle.fixed_units.specs.Lines.{line_at}
use Rattle.fixed_units.specs.Quantities.{IsDischarge, IsStage}
use Rattle.rating_tables.specs.declared.table.Rated.{Rated}
use Rattle.rating_tables.specs.declared.table.Rated.TheVariants.{Value, Below, Above}
use Rattle.rating_tables.specs.declared.table.TableFault.{TableFault}
use Rattle.rating_tables.specs.declared.table.TableFault.TheVariants.{Count, NotRising, Falling}

-- a row: a stage in millionths of a foot, and its discharge in millionths of a cubic foot per second
abbrev pub Row : Type 0
Row = ℤ × ℤ

-- the stage of a row, and its discharge
abbrev pub stage_in : Row → ℤ
stage_in row = row.0

abbrev pub discharge_in : Row → ℤ
discharge_in row = row.1

-- rows are in order where their stages strictly rise and their discharges never fall
pub record IsInOrder (rows : List Row) : Type 0 where
  pub rising : IsRising stage_in rows
  pub never_falling : AllPairs (λ r s. r.1 ≤ℤ s.1) rows

-- how many rows a table has at least and at most
abbrev pub least_rows : ℕ
least_rows = 2

abbrev pub most_rows : ℕ
most_rows = 10_000

-- a table has so many rows, which are in order
pub record IsTable (rows : List Row) : Type 0 where
  pub most : length rows ≤ most_rows
  pub least : least_rows ≤ length rows
  pub order : IsInOrder rows

-- a row of a rating: a stage and a discharge in their ranges
pub record IsRatingRow (row : Row) : Type 0 where
  pub stage : IsStage row.0
  pub discharge : IsDischarge row.1

-- the rows of a rating: a table of stages and discharges in their ranges
pub record IsRating (rows : List Row) : Type 0 where
  pub table : IsTable rows
  pub ranges : All IsRatingRow rows

-- the rows up to a stage, and those above it
abbrev pub rows_upto : ℤ → List Row → List Row
rows_upto stage rows = up_to stage_in stage rows

abbrev pub rows_above : ℤ → List Row → List Row
rows_above stage rows = after stage_in stage rows

-- what the two rows around a stage say: below the first row and above the last one there is no discharge, on a
-- row it is that row's, and between two rows it is the line's
abbrev pub rated_between : Option Row → Option Row → ℤ → Rated
rated_between None above stage = Below
rated_between (Some r) None stage = if int_eq r.0 stage then Value r.1 else Above
rated_between (Some r) (Some s) stage = if int_eq r.0 stage then Value r.1 else Value (line_at r s stage)

-- the rated discharge of a stage
abbrev pub rated : List Row → ℤ → Rated
rated rows stage = rated_between (last (rows_upto stage rows)) (first (rows_above stage rows)) stage

-- the rows that are short of a discharge, and those that reach it
abbrev pub rows_short : ℤ → List Row → List Row
rows_short discharge rows = before discharge_in discharge rows

abbrev pub rows_reaching : ℤ → List Row → List Row
rows_reaching discharge rows = from discharge_in discharge rows

-- a row read the other way round: a discharge and its stage
abbrev pub turned : Row → ℤ × ℤ
turned r = (r.1, r.0)

-- what the last row that is short of a discharge and the first one that reaches it say: the stage of the row that
-- has it, and otherwise the line's, where there are both
abbrev pub stage_between : Option Row → Option Row → ℤ → Option ℤ
stage_between short None discharge = None
stage_between None (Some s) discharge = if int_eq s.1 discharge then Some s.0 else None
stage_between (Some r) (Some s) discharge =
    if int_eq s.1 discharge then Some s.0 else Some (line_at (turned r) (turned s) discharge)

-- the stage of a discharge
abbrev pub stage_of : List Row → ℤ → Option ℤ
stage_of rows discharge = stage_between (last (rows_short discharge rows)) (first (rows_reaching discharge rows)) discharge

-- what is wrong with the row at i behind another, if anything: its stage does not rise, or its discharge falls
abbrev pub fault_behind : ℕ → Row → Row → Option TableFault
fault_behind i r s =
    if int_le s.0 r.0 then Some (NotRising i)
    else (if int_lt s.1 r.1 then Some (Falling i) else None)

-- a first fault, and otherwise those behind it
abbrev pub or_else : Option TableFault → Option TableFault → Option TableFault
or_else None later = later
or_else (Some fault) later = Some fault

-- the first fault of rows that are counted from i
abbrev pub order_fault : ℕ → List Row → Option TableFault
order_fault i [] = None
order_fault i (r ∷ []) = None
order_fault i (r ∷ s ∷ rows) = or_else (fault_behind (suc i) r s) (order_fault (suc i) (s ∷ rows))

-- whether a table may not have so many rows
abbrev pub is_off_count : ℕ → Bool
is_off_count n = nat_lt n least_rows || nat_lt most_rows n

-- the fault of a table of these rows: their number, and otherwise the first row at fault
abbrev pub table_fault : List Row → Option TableFault
table_fault rows = if is_off_count (length rows) then Some Count else order_fault 0 rows
