-- A turn reads one line.
use Rattle.std.proofs.Common.{◌∙◌, sym, arith, inr}
use Rattle.std.proofs.lemmas.Result.{err_from_is_err_and}
use Rattle.rating_tables.specs.Lines.{kept_lines}
use Rattle.rdb_records.proofs.ReadLemmas.{reads_start, reads_next, reads_fault, reads_end, skipped_once}
use Rattle.rdb_records.proofs.units.read_rows.Goals as goal

pub returns-in_err-row-clause-err : goal.returns-in_err-row-clause-err
returns-in_err-row-clause-err c =
    let told = err_from_is_err_and c.from_residual.result c.from_residual.ensures.1 in
    rw (told.1, told.2) (inr (reads_fault c.args.site.now c.args.columns (kept_lines c.args.passed c.args.text.now) c.loop-line.found.readings.items c.loop-line.found.skipped c.loop-line.before (kept_lines c.loop-line.number c.loop-line.rest.now)
    (c.in-Some.line.number, c.in-Some.line.bytes.now) (kept_lines c.in-Some.line.number c.in-Some.line.behind.now) c.in_err-row.field-0.0
    c.loop-line.invariant.reads c.in-Some.ensures.lines (sym c.read_row.ensures ∙ c.in_err-row.was)))

pub loop-line-init : goal.loop-line-init
loop-line-init c =
    record {
      reads = reads_start c.args.site.now c.args.columns (kept_lines c.args.passed c.args.text.now) c.new.result.items c.new.ensures.items;
      lines = omega arith;
      counted = omega arith;
    }

pub loop-line-preserved : goal.loop-line-preserved
loop-line-preserved c =
    record {
      reads =
          reads_next c.args.site.now c.args.columns (kept_lines c.args.passed c.args.text.now) c.loop-line.found.readings.items c.loop-line.found.skipped c.loop-line.before (kept_lines c.loop-line.number c.loop-line.rest.now)
          (c.in-Some.line.number, c.in-Some.line.bytes.now) (kept_lines c.in-Some.line.number c.in-Some.line.behind.now) c.in_ok-row.row c.add.new.self.readings.items c.add.new.self.skipped
          c.loop-line.invariant.reads c.in-Some.ensures.lines (sym c.read_row.ensures ∙ c.in_ok-row.was) c.in_ok-add.ensures.readings c.in_ok-add.ensures.skipped;
      lines = omega (arith, c.in-Some.ensures.shorter);
      counted = omega (arith, c.in-Some.ensures.shorter, c.in_ok-add.ensures.skipped, skipped_once c.in_ok-row.row.stage);
    }

pub returns-clause-ok : goal.returns-clause-ok
returns-clause-ok c =
    reads_end c.args.site.now c.args.columns (kept_lines c.args.passed c.args.text.now) c.loop-line.found.readings.items c.loop-line.found.skipped c.loop-line.before (kept_lines c.loop-line.number c.loop-line.rest.now) c.into_list.result
    c.loop-line.invariant.reads c.in_default.ensures.lines c.into_list.ensures.readings c.into_list.ensures.skipped
