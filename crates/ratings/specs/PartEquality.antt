-- When two lists of the parts of rating periods are equal.
use Rattle.std.specs.Prelude.{Bool, ◌&&◌, ◌==◌, List}
use Rattle.std.specs.Ordering.{int_eq}
use Rattle.std.specs.Cmp.Lexicographic.{pointwise}
use Rattle.ratings.specs.Parts.{Part}
use Rattle.rating_tables.specs.RowEquality.{same_rows}

-- the instants, the numbers of the ratings and the rows of their tables are
abbrev pub same_part : Part → Part → Bool
same_part p q = int_eq p.from q.from && (int_eq p.until q.until && ((p.rating == q.rating) && same_rows p.rows q.rows))

-- the lists are as long, and each pair is one
abbrev pub same_parts : List Part → List Part → Bool
same_parts parts others = pointwise same_part parts others
