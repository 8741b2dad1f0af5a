-- A turn looks at one field.
use Rattle.std.proofs.Common.{◌∙◌, sym, arith, subst, length}
use Rattle.std.specs.Prelude.{option_map}
use Rattle.logger_files.specs.Fields.{fields, fields_left}
use Rattle.rating_tables.proofs.FieldLemmas.{ColumnLeft, column_start, column_here, column_passed, counted_next, left_count_falls}
use Rattle.logger_files.proofs.fields.find_column.Goals as goal

pub loop-left-init : goal.loop-left-init
loop-left-init c =
    record {
      counted = omega arith;
      column = column_start c.args.name.now (fields c.args.separator c.args.line.now);
    }

pub returns-then-eq : goal.returns-then-eq
returns-then-eq c =
    sym (column_here c.args.name.now (fields c.args.separator c.args.line.now) c.loop-left.place c.cut_field.result.0.now (fields_left c.args.separator (option_map (λ s. s.now) c.cut_field.result.1))
    (subst (ColumnLeft c.args.name.now (fields c.args.separator c.args.line.now) c.loop-left.place) c.cut_field.ensures.fields (rw c.in-Some.is at c.loop-left.invariant.column))
    (sym c.eq.ensures ∙ c.if-eq.true))

pub loop-left-smaller : goal.loop-left-smaller
loop-left-smaller c = rw c.in-Some.is (left_count_falls (λ text. length text.now) c.cut_field.result.1 (length c.in-Some.text.now) c.cut_field.ensures.shorter)

pub loop-left-preserved : goal.loop-left-preserved
loop-left-preserved c =
    record {
      counted = counted_next (λ text. length text.now) c.cut_field.result.1 (length c.in-Some.text.now) c.loop-left.place (length c.args.line.now) c.cut_field.ensures.shorter (rw c.in-Some.is at c.loop-left.invariant.counted);
      column = column_passed c.args.name.now (fields c.args.separator c.args.line.now) c.loop-left.place c.cut_field.result.0.now (fields_left c.args.separator (option_map (λ s. s.now) c.cut_field.result.1))
          (subst (ColumnLeft c.args.name.now (fields c.args.separator c.args.line.now) c.loop-left.place) c.cut_field.ensures.fields (rw c.in-Some.is at c.loop-left.invariant.column))
          (sym c.eq.ensures ∙ c.if-eq.false);
    }

pub returns : goal.returns
returns c = sym (rw c.in_default.is at c.loop-left.invariant.column)
