-- A turn judges one line.
use Rattle.std.proofs.Common.{◌≡◌, ◌<◌, arith, length, None, ◌+◌}
use Rattle.std.proofs.lemmas.Bool.Decides.{nat_tests}
use Rattle.rating_tables.specs.Lines.{lines_of}
use Rattle.logger_files.specs.Lines.{rows_from}
use Rattle.logger_files.specs.Rows.{outcomes}
use Rattle.logger_files.proofs.BringLemmas.{finds_end, finds_next, finds_same, finds_start, first_row, no_row, rows_end}
use Rattle.logger_files.proofs.LineLemmas.{no_lines}
use Rattle.logger_files.proofs.bringing.judge_rows.Goals as goal

pub loop-rest-init : goal.loop-rest-init
loop-rest-init c =
    record {
      finds = rw c.from-number.ensures (finds_start c.args.profile.now c.args.columns (rows_from (c.args.profile.now.skip + 1) (lines_of c.args.text.now)) c.new.result.items c.new-2.result c.new.ensures.items c.new-2.ensures);
      lines = omega arith;
    }

pub returns : goal.returns
returns c =
    let empty : length c.loop-rest.rest.now ≡ 0 = grind (arith, nat_tests) in
    finds_end c.args.profile.now c.args.columns (outcomes c.args.profile.now c.args.columns None (rows_from (c.args.profile.now.skip + 1) (lines_of c.args.text.now)))
    c.loop-rest.found.readings.items c.loop-rest.found.left c.loop-rest.before (rows_from c.loop-rest.number (lines_of c.loop-rest.rest.now))
    c.loop-rest.invariant.finds (rows_end c.loop-rest.number c.loop-rest.rest.now (no_lines c.loop-rest.rest.now empty))

pub loop-rest-preserved-then-is_empty : goal.loop-rest-preserved-then-is_empty
loop-rest-preserved-then-is_empty c =
    let none : length c.cut_line.result.0.now ≡ 0 = grind (arith, nat_tests) in
    let same = no_row c.loop-rest.number c.loop-rest.rest.now c.cut_line.result.0.now c.cut_line.result.1.now c.cut_line.ensures.lines none in
    record {
      finds = finds_same c.args.profile.now c.args.columns (outcomes c.args.profile.now c.args.columns None (rows_from (c.args.profile.now.skip + 1) (lines_of c.args.text.now)))
          c.loop-rest.found.readings.items c.loop-rest.found.left c.loop-rest.before (rows_from c.loop-rest.number (lines_of c.loop-rest.rest.now)) (rows_from (c.loop-rest.number + 1) (lines_of c.cut_line.result.1.now)) same c.loop-rest.invariant.finds;
      lines = omega (arith, c.cut_line.ensures.shorter, c.loop-rest.invariant.lines);
    }

pub loop-rest-preserved : goal.loop-rest-preserved
loop-rest-preserved c =
    let some : 0 < length c.cut_line.result.0.now = grind (arith, nat_tests) in
    let first = first_row c.loop-rest.number c.loop-rest.rest.now c.cut_line.result.0.now c.cut_line.result.1.now c.cut_line.ensures.lines some in
    record {
      finds = finds_next c.args.profile.now c.args.columns (outcomes c.args.profile.now c.args.columns None (rows_from (c.args.profile.now.skip + 1) (lines_of c.args.text.now)))
          c.loop-rest.found.readings.items c.loop-rest.found.left c.loop-rest.before (rows_from c.loop-rest.number (lines_of c.loop-rest.rest.now))
          (c.loop-rest.number + 1) c.cut_line.result.0.now (rows_from (c.loop-rest.number + 1) (lines_of c.cut_line.result.1.now)) c.judge_row-outcome.result
          c.add.new.self.readings.items c.add.new.self.left c.add.new.before c.loop-rest.invariant.finds first c.judge_row-outcome.ensures c.in_ok-add.ensures.readings c.in_ok-add.ensures.left c.in_ok-add.ensures.before;
      lines = omega (arith, c.cut_line.ensures.shorter, c.loop-rest.invariant.lines);
    }
