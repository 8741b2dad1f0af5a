-- The field is among those that are left.
use Rattle.logger_files.specs.Fields.{fields}
use Rattle.rating_tables.proofs.FieldLemmas.{AreLeft}
use Rattle.logger_files.proofs.fields.find_field.Given as goal

abbrev pub invariant-loop-passed : goal.invariant-loop-passed
invariant-loop-passed l = AreLeft (fields l.separator l.line) l._passed (fields l.separator l.rest)
