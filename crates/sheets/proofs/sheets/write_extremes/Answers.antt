use Rattle.std.proofs.Common.{codes}
use Rattle.std.proofs.lemmas.Result.{on_ok_weaker}
use Rattle.sheets.specs.Sheets.{extreme_line, extremes_lines}
use Rattle.sheets.proofs.JoinLemmas.{four_lines}
use Rattle.sheets.proofs.sheets.write_extremes.Goals as goal

pub returns-clause-ok : goal.returns-clause-ok
unfolding extremes_lines
returns-clause-ok c =
    let extremes = c.args.extremes.now in
    on_ok_weaker c.write_extreme_line-4.result
    (four_lines c.args.out.now (extreme_line (codes "MAX STAGE") extremes.max_stage) (extreme_line (codes "MIN STAGE") extremes.min_stage)
    (extreme_line (codes "MAX DISCHARGE") extremes.max_discharge) (extreme_line (codes "MIN DISCHARGE") extremes.min_discharge)
    c.write_extreme_line.new.out c.write_extreme_line-2.new.out c.write_extreme_line-3.new.out c.write_extreme_line-4.new.out
    c.in_ok-write_extreme_line.ensures.ok c.in_ok-write_extreme_line-2.ensures.ok c.in_ok-write_extreme_line-3.ensures.ok)
    c.write_extreme_line-4.ensures.ok
