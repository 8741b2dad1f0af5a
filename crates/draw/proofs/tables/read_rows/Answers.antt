-- A turn adds the row of a line, or finds its fault.
use Rattle.std.proofs.Common.{◌≡◌, refl, sym, subst, inl, inr, List, arith}
use Rattle.draw.specs.Rows.{texts}
use Rattle.draw.specs.Tables.{no_row, rows_from}
use Rattle.draw.specs.declared.rows.Row.{Row}
use Rattle.draw.proofs.RowLemmas.{onto, rows_added, rows_begun, rows_done, rows_refused}
use Rattle.draw.proofs.tables.read_rows.Goals as goal

pub loop-line-init : goal.loop-line-init
loop-line-init c = record {
  counted = refl;
  so_far =
      subst (λ (rows : List Row). onto rows (rows_from 1 no_row (texts c.args.lines.now)) ≡ rows_from 1 no_row (texts c.args.lines.now)) (sym c.new-rows.ensures.items)
      (rows_begun no_row (texts c.args.lines.now));
}

pub loop-line-preserved : goal.loop-line-preserved
loop-line-preserved c = record {
  counted = omega arith;
  so_far =
      rows_added c.args.lines.now c.loop-line.line-index c.loop-line.passed _ c.loop-line.before c.in-Ok.next c.loop-line.rows.items c.add_row.new.rows.items
      (rows_from 1 no_row (texts c.args.lines.now)) c.loop-line-test.true c.in-Ok.ensures.added c.loop-line.invariant.so_far;
}

pub returns-in-Err-clause-refused : goal.returns-in-Err-clause-refused
returns-in-Err-clause-refused c =
    elim c.in-Err.ensures.refused [
      | inl e ↦ inl e
      | inr h ↦ inr (rows_refused c.args.lines.now c.loop-line.line-index c.loop-line.passed _ c.loop-line.before c.in-Err.fault c.loop-line.rows.items
          (rows_from 1 no_row (texts c.args.lines.now)) c.loop-line-test.true h c.loop-line.invariant.so_far)
    ]

pub returns-clause-read : goal.returns-clause-read
returns-clause-read c =
    rows_done c.args.lines.now c.loop-line.line-index c.loop-line.passed c.loop-line.before c.loop-line.rows.items (rows_from 1 no_row (texts c.args.lines.now))
    c.loop-line-test.false c.loop-line.invariant.so_far
