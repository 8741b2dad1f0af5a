use Rattle.std.proofs.Common.{ap, ◌∙◌, ◌<◌, ◌++◌, length, rules}
use Rattle.water_year.specs.DailyText.{head_text, row_text}
use Rattle.water_year.specs.declared.rows.DailyRow.{DailyRow}
use Rattle.fixed_units.proofs.PublishedLemmas.{front-kept}
use Rattle.water_year.proofs.TextLemmas.{lines_more, on_err}
use Rattle.water_year.proofs.daily.write_rows.Goals as goal

pub returns-in_err-write_row-clause-err : goal.returns-in_err-write_row-clause-err
returns-in_err-write_row-clause-err c =
    on_err c.from_residual-in_err-write_row.result
    (front-kept c.args.out.now c.loop-row.out c.write_row.new.out _ c.loop-row.invariant c.in_err-write_row.ensures.err)

pub loop-row-preserved : goal.loop-row-preserved
loop-row-preserved c =
    let within : c.loop-row.row-index < length c.args.rows.now = search rules in
    lines_more (row_text c.args.site) c.args.rows.now c.loop-row.row-index c.row-item.result c.args.out.now head_text c.loop-row.out c.write_row.new.out
    within c.loop-row.invariant (c.in_ok-write_row.ensures.ok ∙ ap (λ (row : DailyRow). c.loop-row.out ++ row_text c.args.site row) c.row-item.is)
