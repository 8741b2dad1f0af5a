-- The field is among those that are left.
use Rattle.std.specs.Prelude.{All, ◌≢◌}
use Rattle.rating_tables.specs.Rdb.{fields, fields_from}
use Rattle.rating_tables.proofs.FieldLemmas.{AreLeft}
use Rattle.rdb_records.proofs.fields.find_field.Given as goal

abbrev pub invariant-loop-passed : goal.invariant-loop-passed
invariant-loop-passed l = record {
  feeds : All (λ b. b ≢ 10) l.rest;
  fields : AreLeft (fields l.line) l._passed (fields_from l.rest);
}
