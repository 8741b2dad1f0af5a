-- When two entries, and two lists of them, are equal.
use Rattle.std.specs.Prelude.{Bool, true, false, not, ◌&&◌, List, ℤ, Option, Some, None}
use Rattle.std.specs.Ordering.{int_eq}
use Rattle.std.specs.Cmp.Lexicographic.{pointwise}
use Rattle.curves.specs.Entries.{entry_at}
use Rattle.curves.specs.declared.entries.Entry.{Entry}

-- the stages and the amounts are one
abbrev pub same_point : ℤ × ℤ → ℤ × ℤ → Bool
same_point p q = int_eq p.0 q.0 && int_eq p.1 q.1

-- the marks are one
abbrev pub same_mark : Bool → Bool → Bool
same_mark true mark = mark
same_mark false mark = not mark

-- the instants, the points of the curves and the marks are
abbrev pub same_entry : Entry → Entry → Bool
same_entry e f = int_eq e.at f.at && (pointwise same_point e.curve f.curve && same_mark e.prorate f.prorate)

-- the lists are as long, and each pair is one
abbrev pub same_entries : List Entry → List Entry → Bool
same_entries entries others = pointwise same_entry entries others

-- an entry is the one that was found, if one was
abbrev pub is_found : Entry → Option Entry → Bool
is_found entry None = false
is_found entry (Some other) = same_entry entry other

-- an entry equal to this one stands at its instant
abbrev pub has_entry : Entry → List Entry → Bool
has_entry entry entries = is_found entry (entry_at entry.at entries)
