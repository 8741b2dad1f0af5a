-- The table of a water year: what is counted and summed over the rows of each month, and over all rows. Missing days are in no sum and in
-- neither extreme.
use Rattle.std.specs.Prelude.{ℕ, Bool, List, [], ◌∷◌, map, length, filter, find, count_by, unwrap_or, Option, ℤ, pos, ◌+ℤ◌, int_le}
use Rattle.std.specs.List.{list_all}
use Rattle.water_year.specs.Rows.{is_approved, is_in, is_missing, months_of, values_of}
use Rattle.water_year.specs.declared.rows.DailyRow.{DailyRow}
use Rattle.water_year.specs.declared.tables.Month.{Month}
use Rattle.water_year.specs.declared.tables.Year.{Year}

-- the sum of numbers
abbrev pub sum_of : List ℤ → ℤ
sum_of [] = pos 0
sum_of (n ∷ ns) = n +ℤ sum_of ns

-- the one of them that none exceeds, and the one that exceeds none
abbrev pub greatest : List ℤ → Option ℤ
greatest ns = find (λ n. list_all (λ m. int_le m n) ns) ns

abbrev pub least : List ℤ → Option ℤ
least ns = find (λ n. list_all (λ m. int_le n m) ns) ns

-- what is told of rows; the greatest and the least value of rows without one are told as 0
abbrev pub month_of : List DailyRow → Month
month_of rows = record {
  days = length rows;
  missing = count_by is_missing rows;
  total = sum_of (values_of rows);
  most = unwrap_or (greatest (values_of rows)) (pos 0);
  least = unwrap_or (least (values_of rows)) (pos 0);
}

-- the table of the rows of a water year: a year is approved where each of its days is, be it missing or not
abbrev pub year_of : ℕ → List DailyRow → Year
year_of year rows = record {
  months = map (λ month. month_of (filter (is_in month) rows)) (months_of year);
  whole = month_of rows;
  approved = list_all is_approved rows;
}
