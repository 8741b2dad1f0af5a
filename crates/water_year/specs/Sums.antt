-- What is kept of rows while they are summed.
use Rattle.std.specs.Prelude.{List, length, count_by}
use Rattle.water_year.specs.Rows.{is_missing, values_of}
use Rattle.water_year.specs.Tables.{greatest, least, sum_of}
use Rattle.water_year.specs.declared.rows.DailyRow.{DailyRow}
use Rattle.water_year.specs.declared.sums.Sums.{Sums}

-- the counts, the sum and the extremes of rows
abbrev pub sums_of : List DailyRow → Sums
sums_of rows = record {
  days = length rows;
  missing = count_by is_missing rows;
  total = sum_of (values_of rows);
  most = greatest (values_of rows);
  least = least (values_of rows);
}
