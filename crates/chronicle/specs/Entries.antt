-- The entries of a chronicle, in the order in which they came.
use Rattle.std.specs.Prelude.{List, [], ◌∷◌, ◌++◌}
use Rattle.chronicle.specs.declared.past.Past.{Past}
use Rattle.chronicle.specs.declared.past.Past.TheVariants.{Empty, After}

-- those from before, and then the last one
abbrev pub entries_of : {E : Type 0} → Past E → List E
entries_of Empty = []
entries_of (After past entry) = past.value ++ entry.value ∷ []
