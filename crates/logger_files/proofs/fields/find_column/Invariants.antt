-- The name stands among the fields that are left, which get fewer.
use Rattle.std.proofs.Common.{◌+◌, ◌≤◌, length}
use Rattle.std.specs.Prelude.{MatchOption, ⊤, option_map}
use Rattle.logger_files.specs.Fields.{fields, fields_left}
use Rattle.rating_tables.proofs.FieldLemmas.{ColumnLeft, left_count}
use Rattle.logger_files.proofs.fields.find_column.Given as goal

abbrev pub invariant-loop-left : goal.invariant-loop-left
invariant-loop-left l = record {
  counted : MatchOption l.left ⊤ (λ text. l.place + length text.now ≤ length l.line);
  column : ColumnLeft l.name (fields l.separator l.line) l.place (fields_left l.separator (option_map (λ text. text.now) l.left));
}

abbrev pub decreases-loop-left : goal.decreases-loop-left
decreases-loop-left l = left_count (λ text. length text.now) l.left
