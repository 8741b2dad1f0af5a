-- Which edits are asked for, and in which form.
use Rattle.std.specs.Prelude.{ℕ, Bool, true, ◌&&◌, ◌==◌, nat_le, List, bytes_eq, Option, Some, None}
use Rattle.edits.specs.Kinds.{kind_number, kind_of}
use Rattle.edits.specs.declared.content.Edit.{Edit}
use Rattle.edits.specs.declared.kinds.Kind.{Kind}
use Rattle.fixed_units.specs.Quantities.{SiteNumber, same_site}
use Rattle.ledger.specs.declared.choices.Choice.{Choice}

-- of that site, that kind and that person, or of any where none is named
abbrev pub is_of_site : Option SiteNumber → Edit → Bool
is_of_site None edit = true
is_of_site (Some site) edit = same_site edit.site site

abbrev pub is_of_kind : Option Kind → Edit → Bool
is_of_kind None edit = true
is_of_kind (Some kind) edit = kind_number (kind_of edit.what) == kind_number kind

abbrev pub is_by : Option (List ℕ) → Edit → Bool
is_by None edit = true
is_by (Some by) edit = bytes_eq edit.by by

-- an edit of that number is chosen
abbrev pub is_chosen : Choice → ℕ → Edit → Bool
is_chosen choice number edit =
    nat_le choice.first number && (nat_le number choice.last
    && (is_of_site choice.site edit && (is_of_kind choice.kind edit && is_by choice.by edit)))
