-- What was found of the rows behind the names is what the text makes.
use Rattle.std.proofs.Common.{◌≡◌, sym, arith, length, None, ◌+◌, inr}
use Rattle.std.proofs.lemmas.Bool.Decides.{nat_tests}
use Rattle.rating_tables.specs.Lines.{lines_of}
use Rattle.logger_files.specs.Lines.{rows_from}
use Rattle.logger_files.specs.Rows.{outcomes}
use Rattle.logger_files.proofs.BringLemmas.{brought_all, memory_alone, no_names, rows_stated}
use Rattle.logger_files.proofs.LineLemmas.{no_lines}
use Rattle.logger_files.proofs.bringing.bring.Goals as goal

pub returns-then-is_empty-clause-unread : goal.returns-then-is_empty-clause-unread
returns-then-is_empty-clause-unread c =
    let empty : length c.behind_lines-lines.result.now ≡ 0 = grind (arith, nat_tests) in
    inr (no_names c.args.profile.now c.args.text.now c.without_mark.result.now c.behind_lines-lines.result.now c.without_mark.ensures.text c.behind_lines-lines.ensures.lines (no_lines c.behind_lines-lines.result.now empty))

pub returns-clause-unread : goal.returns-clause-unread
returns-clause-unread c = memory_alone c.args.profile.now c.args.text.now c.make_requests.result c.make_requests.ensures.err

pub returns-clause-brought : goal.returns-clause-brought
returns-clause-brought c =
    let profile = c.args.profile.now in
    let stated = rows_stated profile c.args.text.now c.without_mark.result.now c.behind_lines-lines.result.now c.cut_line.result.0.now c.cut_line.result.1.now c.in_ok-columns.columns c.without_mark.ensures.text c.behind_lines-lines.ensures.lines c.cut_line.ensures.lines (sym c.in_ok-columns.ensures) in
    brought_all profile c.args.text.now (outcomes profile c.in_ok-columns.columns None (rows_from (profile.skip + 1) (lines_of c.cut_line.result.1.now)))
    c.in_ok-found.found.readings.items c.in_ok-found.found.left c.make_requests.result stated c.in_ok-found.ensures c.make_requests.ensures.made
