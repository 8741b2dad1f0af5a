-- The fields of a line: what separators part, but for those between quotes.
use Rattle.std.specs.Prelude.{ℕ, ◌-◌, ◌+◌, ◌==◌, ◌&&◌, not, nat_le, nat_lt, Bool, true, false, if◌then◌else◌, List, [], ◌∷◌, length, slice_index, take, drop, map, Option, Some, None}
use Rattle.rating_tables.specs.Lines.{in_front}
use Rattle.rating_tables.specs.Rdb.{column, trimmed}

-- whether quotes are open behind a byte
abbrev pub quoted_behind : Bool → ℕ → Bool
quoted_behind quoted b = if b == 34 then not quoted else quoted

-- a byte that ends a part: the separator, where no quotes are open
abbrev pub is_end : ℕ → Bool → ℕ → Bool
is_end separator quoted b = (b == separator) && not quoted

-- the parts of a line: each ends at a separator that stands outside of quotes, and the last one with the line
unfoldable pub parts_from : ℕ → Bool → List ℕ → List (List ℕ)
parts_from separator quoted [] = [] ∷ []
parts_from separator quoted (b ∷ line) =
    if is_end separator quoted b then [] ∷ parts_from separator false line
    else in_front b (parts_from separator (quoted_behind quoted b) line)

abbrev pub parts : ℕ → List ℕ → List (List ℕ)
parts separator line = parts_from separator false line

-- a text between quotes, without them
abbrev pub unquoted : List ℕ → List ℕ
unquoted text =
    if nat_le 2 (length text) && ((slice_index text 0 == 34) && (slice_index text (length text - 1) == 34))
    then take (length text - 2) (drop 1 text) else text

-- the field that a part is: without the spaces at its ends, and without quotes round it
abbrev pub field_of : List ℕ → List ℕ
field_of part = unquoted (trimmed part)

-- the fields of a line
abbrev pub fields : ℕ → List ℕ → List (List ℕ)
fields separator line = map field_of (parts separator line)

-- the parts behind the one that ends at a place, and the fields behind the separator that ends one
abbrev pub parts_behind : ℕ → ℕ → List ℕ → List (List ℕ)
parts_behind separator end text = if nat_lt end (length text) then parts separator (drop (end + 1) text) else []

abbrev pub fields_left : ℕ → Option (List ℕ) → List (List ℕ)
fields_left separator None = []
fields_left separator (Some text) = fields separator text

-- whether a text is among those that a line lists
abbrev pub is_some : Option ℕ → Bool
is_some None = false
is_some (Some place) = true

abbrev pub is_listed : ℕ → List ℕ → List ℕ → Bool
is_listed separator line text = is_some (column text (fields separator line))
