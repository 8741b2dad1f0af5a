use Rattle.std.proofs.Common.{codes}
use Rattle.std.proofs.lemmas.Result.{on_ok_weaker}
use Rattle.sheets.specs.Sheets.{count_line, counts_lines, edition_line, missing_line}
use Rattle.sheets.proofs.JoinLemmas.{four_lines}
use Rattle.sheets.proofs.sheets.write_counts.Goals as goal

pub returns-clause-ok : goal.returns-clause-ok
unfolding counts_lines
returns-clause-ok c =
    let counts = c.args.counts.now in
    on_ok_weaker c.write_missing_line.result
    (four_lines c.args.out.now (count_line (codes "LENGTH") c.args.seconds) (edition_line c.args.least) (count_line (codes "READINGS") counts.readings) (missing_line counts)
    c.write_count_line.new.out c.write_edition_line.new.out c.write_count_line-2.new.out c.write_missing_line.new.out
    c.in_ok-write_count_line.ensures.ok c.in_ok-write_edition_line.ensures.ok c.in_ok-write_count_line-2.ensures.ok)
    c.write_missing_line.ensures.ok
