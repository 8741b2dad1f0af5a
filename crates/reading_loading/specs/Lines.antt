-- The lines that tell what became of the readings of a text.
use Rattle.std.specs.Prelude.{ℕ, List, ◌++◌, length, codes, decimal}
use Rattle.edits.specs.declared.content.Edit.{Edit}
use Rattle.rdb_records.specs.declared.units.UnitList.{UnitList}

-- nothing stands behind what is told of an edit
abbrev pub line_end : List ℕ
line_end = codes "\n"

abbrev pub end_of : Edit → List ℕ
end_of edit = line_end

-- the last line: how many readings the text states, and how many of its rows are skipped
abbrev pub count_line : UnitList → List ℕ
count_line units = codes "readings " ++ decimal (length units.readings) ++ codes " skipped " ++ decimal units.skipped ++ codes "\n"
