-- When two lists of rows are equal.
use Rattle.std.specs.Prelude.{Bool, ◌&&◌, List}
use Rattle.std.specs.Ordering.{int_eq}
use Rattle.std.specs.Cmp.Lexicographic.{pointwise}
use Rattle.rating_tables.specs.Table.{Row}

-- the stages and the discharges are one
abbrev pub same_row : Row → Row → Bool
same_row r s = int_eq r.0 s.0 && int_eq r.1 s.1

-- the lists are as long, and each pair is one
abbrev pub same_rows : List Row → List Row → Bool
same_rows rows others = pointwise same_row rows others
