-- Rows of daily values, the days of a water year and its months. A water year is the twelve months that end with September and has the
-- number of the calendar year in which it ends (the practice of the U.S. Geological Survey).
use Rattle.std.specs.Prelude.{◌≡◌, ℕ, ◌+◌, ◌-◌, ◌^◌, ◌≤◌, Bool, true, false, List, [], ◌∷◌, map, All, filter_map, Option, Some, None, ℤ, pos, ◌-ℤ◌, ◌*ℤ◌, unsigned_abs, ⊤}
use Rattle.fixed_units.specs.Calendar.{days_from}
use Rattle.fixed_units.specs.Quantities.{is_within, most_discharge}
use Rattle.fixed_units.specs.declared.published.Published.{Published}
use Rattle.jiff_core.specs.Calendar.{days_from_civil, days_in_month}
use Rattle.water_year.specs.declared.rows.DailyRow.{DailyRow}
use Rattle.water_year.specs.declared.rows.RowState.{RowState}
use Rattle.water_year.specs.declared.rows.RowState.TheVariants as states

-- the millionths that a published value of at most six places stands for
abbrev pub millionths_of : Published → ℤ
millionths_of v = v.units *ℤ pos (10 ^ (6 - v.places))

-- the value of a row, where it has one
abbrev pub value_in : RowState → Option ℤ
value_in (states.Pending edit) = None
value_in (states.Value value) = Some (millionths_of value)
value_in states.Absent = None

abbrev pub value_of : DailyRow → Option ℤ
value_of row = value_in row.state

-- the values of rows
abbrev pub values_of : List DailyRow → List ℤ
values_of rows = filter_map value_of rows

-- a row whose day has no value: it is missing
abbrev pub is_missing_in : RowState → Bool
is_missing_in (states.Pending edit) = false
is_missing_in (states.Value value) = false
is_missing_in states.Absent = true

abbrev pub is_missing : DailyRow → Bool
is_missing row = is_missing_in row.state

abbrev pub is_approved : DailyRow → Bool
is_approved row = row.approved

-- a value of at most six places, and of at most 10,000,000 cubic feet per second either way
pub record IsCounted (v : Published) : Type 0 where
  pub places : v.places ≤ 6
  pub magnitude : unsigned_abs (millionths_of v) ≤ most_discharge

-- the day is not pending, and its value is one that is counted
abbrev pub IsSettledIn : RowState → Type 0
IsSettledIn (states.Pending edit) = ⊥
IsSettledIn (states.Value value) = IsCounted value
IsSettledIn states.Absent = ⊤

abbrev pub IsSettled : DailyRow → Type 0
IsSettled row = IsSettledIn row.state

-- a water year of which every day is one of the calendar
pub record IsWaterYear (year : ℕ) : Type 0 where
  pub first : 1901 ≤ year
  pub last : year ≤ 2099

-- it begins with 1 October of the year before and ends with 30 September
abbrev pub first_of : ℕ → ℤ
first_of year = days_from_civil (pos year -ℤ pos 1) 10 1

abbrev pub last_of : ℕ → ℤ
last_of year = days_from_civil (pos year) 9 30

-- its days in order
abbrev pub days_of : ℕ → List ℤ
days_of year = days_from (first_of year) (unsigned_abs (last_of year -ℤ first_of year) + 1)

-- one settled row of each of its days, in order
pub record AreRowsOf (year : ℕ) (rows : List DailyRow) : Type 0 where
  pub days : map (λ row. row.day) rows ≡ days_of year
  pub settled : All IsSettled rows

-- its months in order, each by the year in which it lies and its number
abbrev pub months_of : ℕ → List (ℤ × ℕ)
months_of year =
    (pos year -ℤ pos 1, 10) ∷ (pos year -ℤ pos 1, 11) ∷ (pos year -ℤ pos 1, 12) ∷ (pos year, 1) ∷ (pos year, 2) ∷ (pos year, 3)
    ∷ (pos year, 4) ∷ (pos year, 5) ∷ (pos year, 6) ∷ (pos year, 7) ∷ (pos year, 8) ∷ (pos year, 9) ∷ []

-- the row of a day from one to another, both included
abbrev pub is_from : ℤ → ℤ → DailyRow → Bool
is_from first last row = is_within first last row.day

-- and from the first of a month to its last
abbrev pub is_in : ℤ × ℕ → DailyRow → Bool
is_in month row = is_from (days_from_civil month.0 month.1 1) (days_from_civil month.0 month.1 (days_in_month month.0 month.1)) row
