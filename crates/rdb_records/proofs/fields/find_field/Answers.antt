-- A turn passes one field.
use Rattle.std.proofs.Common.{◌≡◌, ◌∙◌, ap, arith, ◌+◌}
use Rattle.std.specs.Prelude.{option_map}
use Rattle.rating_tables.specs.Rdb.{fields, fields_from, fields_behind}
use Rattle.rating_tables.proofs.FieldLemmas.{fields_of_line, all_left, left_passed, left_first, left_none}
use Rattle.rdb_records.proofs.fields.find_field.Goals as goal

pub loop-passed-init : goal.loop-passed-init
loop-passed-init c = record { feeds = c.requires.1; fields = all_left (fields c.args.line.now) (fields_from c.args.line.now) (fields_of_line c.args.line.now c.requires) }

pub returns-in_err-rest : goal.returns-in_err-rest
returns-in_err-rest c =
    let left = left_passed (fields c.args.line.now) c.loop-passed._passed (fields_from c.loop-passed.rest.now) c.cut_field.result.0.now (fields_behind (option_map (λ s. s.now) c.cut_field.result.1)) c.loop-passed.invariant.fields c.cut_field.ensures.fields in
    ap (option_map (λ s. s.now)) c.from_residual.ensures ∙ left_none (fields c.args.line.now) (c.loop-passed._passed + 1) c.args.place (rw c.in_err-rest.was at left) (omega arith)

pub loop-passed-preserved : goal.loop-passed-preserved
loop-passed-preserved c =
    record {
      feeds = rw c.in_ok-rest.was at c.cut_field.ensures.feeds;
      fields = rw c.in_ok-rest.was at (left_passed (fields c.args.line.now) c.loop-passed._passed (fields_from c.loop-passed.rest.now) c.cut_field.result.0.now (fields_behind (option_map (λ s. s.now) c.cut_field.result.1)) c.loop-passed.invariant.fields c.cut_field.ensures.fields);
    }

pub returns : goal.returns
returns c =
    let end : c.loop-passed._passed ≡ c.args.place = omega arith in
    rw end at (left_first (fields c.args.line.now) c.loop-passed._passed (fields_from c.loop-passed.rest.now) c.cut_field-2.result.0.now _ c.loop-passed.invariant.fields c.cut_field-2.ensures.fields)
