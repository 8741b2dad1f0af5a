-- A turn passes one line.
use Rattle.std.proofs.Common.{◌≡◌, ◌∙◌, sym, arith, length}
use Rattle.std.proofs.lemmas.Bool.Decides.{nat_tests}
use Rattle.rating_tables.specs.Lines.{lines_of}
use Rattle.logger_files.proofs.LineLemmas.{next_behind, no_lines, none_behind}
use Rattle.logger_files.proofs.lines.behind_lines.Goals as goal

pub loop-passed-preserved-then-is_empty : goal.loop-passed-preserved-then-is_empty
loop-passed-preserved-then-is_empty c =
    let empty : length c.loop-passed.rest.now ≡ 0 = grind (arith, nat_tests) in
    let none = no_lines c.loop-passed.rest.now empty in
    record {
      lines = none ∙ none_behind c.loop-passed._passed (lines_of c.args.text.now) (sym none ∙ c.loop-passed.invariant.lines);
      length = c.loop-passed.invariant.length;
    }

pub loop-passed-preserved : goal.loop-passed-preserved
loop-passed-preserved c =
    record {
      lines =
          next_behind c.loop-passed._passed (lines_of c.args.text.now) c.cut_line.result.0.now (lines_of c.cut_line.result.1.now)
          (sym c.cut_line.ensures.lines ∙ c.loop-passed.invariant.lines);
      length = omega (arith, c.cut_line.ensures.shorter, c.loop-passed.invariant.length);
    }
