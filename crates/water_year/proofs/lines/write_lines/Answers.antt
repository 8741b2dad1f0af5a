-- The title, the months, the year and the state.
use Rattle.std.proofs.Common.{codes, flat_map}
use Rattle.std.specs.Prelude.{zip}
use Rattle.std.proofs.lemmas.Result.{on_err_weaker, on_ok_weaker}
use Rattle.fixed_units.proofs.PublishedLemmas.{front-kept}
use Rattle.water_year.specs.YearText.{month_line, month_names, state_line, title_line}
use Rattle.water_year.proofs.TextLemmas.{four_joined, on_err, three_joined, two_joined, unchanged}
use Rattle.water_year.proofs.lines.write_lines.Goals as goal

pub returns-in_err-write_month-clause-err : goal.returns-in_err-write_month-clause-err
returns-in_err-write_month-clause-err c =
    on_err c.from_residual-in_err-write_month.result
    (front-kept c.args.out.now c.write_months.new.out c.write_month.new.out _
    (two_joined c.args.out.now _ _ c.write_title.new.out c.write_months.new.out c.in_ok-write_title.ensures.ok c.in_ok-write_months.ensures.ok)
    c.in_err-write_month.ensures.err)

pub returns-clause-ok : goal.returns-clause-ok
returns-clause-ok c =
    let table = c.args.table.now in
    let line = month_line c.args.array.now in
    on_ok_weaker c.write_state.result
    (four_joined c.args.out.now (title_line c.args.year c.args.site) (flat_map line (zip month_names table.months)) (line (codes "YEAR", table.whole))
    (state_line table.approved) c.write_title.new.out c.write_months.new.out c.write_month.new.out c.write_state.new.out
    c.in_ok-write_title.ensures.ok c.in_ok-write_months.ensures.ok c.in_ok-write_month.ensures.ok)
    c.write_state.ensures.ok

pub returns-clause-err : goal.returns-clause-err
returns-clause-err c =
    on_err_weaker c.write_state.result
    (unchanged c.args.out.now c.write_month.new.out c.write_state.new.out _
    (three_joined c.args.out.now _ _ _ c.write_title.new.out c.write_months.new.out c.write_month.new.out
    c.in_ok-write_title.ensures.ok c.in_ok-write_months.ensures.ok c.in_ok-write_month.ensures.ok))
    c.write_state.ensures.err
