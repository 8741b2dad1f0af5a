-- A turn passes one field.
use Rattle.std.proofs.Common.{◌≡◌, ◌∙◌, ap, arith, refl, ◌+◌}
use Rattle.std.specs.Prelude.{option_map}
use Rattle.logger_files.specs.Fields.{fields, fields_left}
use Rattle.rating_tables.proofs.FieldLemmas.{all_left, left_passed, left_first, left_none}
use Rattle.logger_files.proofs.fields.find_field.Goals as goal

pub loop-passed-init : goal.loop-passed-init
loop-passed-init c = all_left (fields c.args.separator c.args.line.now) (fields c.args.separator c.args.line.now) refl

pub returns-in_err-rest : goal.returns-in_err-rest
returns-in_err-rest c =
    let left = left_passed (fields c.args.separator c.args.line.now) c.loop-passed._passed (fields c.args.separator c.loop-passed.rest.now) c.cut_field.result.0.now (fields_left c.args.separator (option_map (λ s. s.now) c.cut_field.result.1)) c.loop-passed.invariant c.cut_field.ensures.fields in
    ap (option_map (λ s. s.now)) c.from_residual.ensures ∙ left_none (fields c.args.separator c.args.line.now) (c.loop-passed._passed + 1) c.args.place (rw c.in_err-rest.was at left) (omega arith)

pub loop-passed-preserved : goal.loop-passed-preserved
loop-passed-preserved c =
    rw c.in_ok-rest.was at (left_passed (fields c.args.separator c.args.line.now) c.loop-passed._passed (fields c.args.separator c.loop-passed.rest.now) c.cut_field.result.0.now (fields_left c.args.separator (option_map (λ s. s.now) c.cut_field.result.1)) c.loop-passed.invariant c.cut_field.ensures.fields)

pub returns : goal.returns
returns c =
    let end : c.loop-passed._passed ≡ c.args.place = omega arith in
    rw end at (left_first (fields c.args.separator c.args.line.now) c.loop-passed._passed (fields c.args.separator c.loop-passed.rest.now) c.cut_field-2.result.0.now _ c.loop-passed.invariant c.cut_field-2.ensures.fields)
