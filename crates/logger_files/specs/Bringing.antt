-- What becomes of a logger's file: the requests of the rows that are taken, and the list of those that are not.
use Rattle.std.specs.Prelude.{◌≡◌, ⊤, ℕ, ◌+◌, List, [], ◌∷◌, ◌++◌, drop, Option, None, Some, Result, Ok, Err}
use Rattle.std.specs.List.{flat_map}
use Rattle.csv.specs.Reading.{strip_bom}
use Rattle.fixed_units.specs.declared.readings.Reading.{Reading}
use Rattle.rating_tables.specs.Lines.{lines_of}
use Rattle.rating_tables.specs.Rdb.{column}
use Rattle.logger_files.specs.Fields.{fields}
use Rattle.logger_files.specs.Lines.{rows_from}
use Rattle.logger_files.specs.Reasons.{told_line}
use Rattle.logger_files.specs.Requests.{requests_text}
use Rattle.logger_files.specs.Rows.{outcomes}
use Rattle.logger_files.specs.declared.bringing.Brought.{Brought}
use Rattle.logger_files.specs.declared.profiles.Profile.{Profile}
use Rattle.logger_files.specs.declared.reasons.FileFault.{FileFault}
use Rattle.logger_files.specs.declared.reasons.FileFault.TheVariants.{NoNames, NoTimes, NoValues}
use Rattle.logger_files.specs.declared.reasons.Reason.{Reason}
use Rattle.logger_files.specs.declared.rows.Columns.{Columns}

-- the reading of a row in front of others, where it is taken
abbrev pub with_taken : Result Reading Reason → List Reading → List Reading
with_taken (Ok reading) readings = reading ∷ readings
with_taken (Err reason) readings = readings

-- the line that tells of a row in front of others, where it is not taken
abbrev pub with_told : ℕ → Result Reading Reason → List ℕ → List ℕ
with_told number (Ok reading) text = text
with_told number (Err reason) text = told_line number reason ++ text

-- the places of the columns of times and of values
abbrev pub columns_from : Option ℕ → Option ℕ → Result Columns FileFault
columns_from None value = Err NoTimes
columns_from (Some time) None = Err NoValues
columns_from (Some time) (Some value) = Ok (record { time = time; value = value })

abbrev pub columns_of : Profile → List ℕ → Result Columns FileFault
columns_of profile names =
    columns_from (column profile.time.now (fields profile.separator names)) (column profile.value.now (fields profile.separator names))

-- what the rows behind the names state
abbrev pub rows_under : Profile → List (List ℕ) → Result Columns FileFault → Result (List (ℕ × Result Reading Reason)) FileFault
rows_under profile lines (Err fault) = Err fault
rows_under profile lines (Ok columns) = Ok (outcomes profile columns None (rows_from (profile.skip + 1) lines))

-- what the rows of lines state, of which the first has the names
abbrev pub rows_in : Profile → List (List ℕ) → Result (List (ℕ × Result Reading Reason)) FileFault
rows_in profile [] = Err NoNames
rows_in profile (names ∷ lines) = rows_under profile lines (columns_of profile names)

-- what the rows of a text state
abbrev pub rows_of : Profile → List ℕ → Result (List (ℕ × Result Reading Reason)) FileFault
rows_of profile text = rows_in profile (drop profile.skip (lines_of (strip_bom text)))

-- the row goes to the front of one of the two, and the rest of both are those of the other rows
abbrev pub IsFirst : ℕ → Result Reading Reason → List Reading → List (ℕ × Reason) → (List Reading → List (ℕ × Reason) → Type 0) → Type 0
IsFirst number (Ok reading) [] left Rest = ⊥
IsFirst number (Ok reading) (first ∷ readings) left Rest = (first ≡ reading) × Rest readings left
IsFirst number (Err reason) readings [] Rest = ⊥
IsFirst number (Err reason) readings (first ∷ left) Rest = (first ≡ (number, reason)) × Rest readings left

-- rows parted into readings and rows that are not taken: each goes to exactly one of the two, and both keep the order
abbrev pub AreParted : List (ℕ × Result Reading Reason) → List Reading → List (ℕ × Reason) → Type 0
AreParted [] [] [] = ⊤
AreParted [] [] (one ∷ left) = ⊥
AreParted [] (reading ∷ readings) left = ⊥
AreParted (row ∷ rows) readings left = IsFirst row.0 row.1 readings left (AreParted rows)

-- a line for each row that is not taken
abbrev pub told_lines : List (ℕ × Reason) → List ℕ
told_lines left = flat_map (λ row. told_line row.0 row.1) left

-- each row is either among the readings or told of in a line, and both are in the order of the rows
abbrev pub AreFound : List (ℕ × Result Reading Reason) → List Reading → List ℕ → Type 0
AreFound rows readings lines = (left : List (ℕ × Reason)) × AreParted rows readings left × (lines ≡ told_lines left)

-- the requests put the readings of the rows that are taken, and the list tells of all others
abbrev pub IsMade : Profile → List (ℕ × Result Reading Reason) → Brought → Type 0
IsMade profile rows brought =
    (readings : List Reading) × (brought.requests ≡ requests_text profile.by profile.site readings) × AreFound rows readings brought.left

abbrev pub AreMade : Profile → Brought → Result (List (ℕ × Result Reading Reason)) FileFault → Type 0
AreMade profile brought (Err fault) = ⊥
AreMade profile brought (Ok rows) = IsMade profile rows brought

-- what is made of a text, and why nothing is. Want of memory may come in place of any answer
abbrev pub IsBrought : Profile → List ℕ → Brought → Type 0
IsBrought profile text brought = AreMade profile brought (rows_of profile text)

abbrev pub IsUnread : Profile → List ℕ → FileFault → Type 0
IsUnread profile text fault = rows_of profile text ≡ Err fault

-- what a text makes by a profile it makes once
abbrev pub MakesOnce : Profile → List ℕ → Type 0
MakesOnce profile text =
    (one other : Brought) → IsBrought profile text one → IsBrought profile text other → (one.requests ≡ other.requests) × (one.left ≡ other.left)
