-- A turn reads one line.
use Rattle.std.proofs.Common.{◌∙◌, sym, arith}
use Rattle.std.proofs.lemmas.Result.{err_from_is_err_and}
use Rattle.rating_tables.specs.Lines.{kept_lines}
use Rattle.rating_tables.proofs.RdbLemmas.{reads_next, reads_fault, reads_end}
use Rattle.rating_tables.proofs.rdb.read_rows.Goals as goal

pub returns-in_err-row-clause-err : goal.returns-in_err-row-clause-err
returns-in_err-row-clause-err c =
    let told = err_from_is_err_and c.from_residual.result c.from_residual.ensures.1 in
    rw (told.1, told.2) (reads_fault c.args.columns (kept_lines c.args.passed c.args.text.now) c.loop-line.rows.kept.items c.loop-line.rows.count c.loop-line.before (kept_lines c.loop-line.number c.loop-line.rest.now)
    (c.in-Some.line.number, c.in-Some.line.bytes.now) (kept_lines c.in-Some.line.number c.in-Some.line.behind.now) c.in_err-row.field-0.0
    c.loop-line.invariant.reads c.in-Some.ensures.lines (sym c.read_row.ensures ∙ c.in_err-row.was))

pub loop-line-preserved : goal.loop-line-preserved
loop-line-preserved c =
    record {
      reads =
          rw c.add.ensures.count (reads_next c.args.columns (kept_lines c.args.passed c.args.text.now) c.loop-line.rows.kept.items c.loop-line.rows.count c.loop-line.before (kept_lines c.loop-line.number c.loop-line.rest.now)
          (c.in-Some.line.number, c.in-Some.line.bytes.now) (kept_lines c.in-Some.line.number c.in-Some.line.behind.now) c.in_ok-row.row c.add.new.self.kept.items
          c.loop-line.invariant.reads c.in-Some.ensures.lines (sym c.read_row.ensures ∙ c.in_ok-row.was) c.add.ensures.kept);
      lines = omega (arith, c.in-Some.ensures.shorter);
      counted = omega (arith, c.in-Some.ensures.shorter, c.add.ensures.count);
    }

pub returns-clause-ok : goal.returns-clause-ok
returns-clause-ok c =
    reads_end c.args.columns (kept_lines c.args.passed c.args.text.now) c.loop-line.rows.kept.items c.loop-line.rows.count c.loop-line.before (kept_lines c.loop-line.number c.loop-line.rest.now)
    c.loop-line.invariant.reads c.in_default.ensures.lines
