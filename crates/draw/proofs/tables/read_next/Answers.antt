-- The row is that of the fields of the line.
use Rattle.std.proofs.Common.{ap, ◌∙◌}
use Rattle.draw.specs.Rows.{row_in, texts}
use Rattle.draw.specs.Tables.{put_after, row_on}
use Rattle.draw.proofs.RowLemmas.{told_err, told_ok}
use Rattle.draw.proofs.tables.read_next.Goals as goal

pub returns-clause-read : goal.returns-clause-read
unfolding row_on
returns-clause-read c =
    told_ok c.put_after.result (row_on c.args.before.now c.args.line.now)
    (c.put_after.ensures ∙ ap (put_after c.args.before.now) (c.read_row.ensures ∙ ap row_in (ap texts c.deref.ensures.value ∙ c.in_ok-parts.ensures)))

pub returns-clause-refused : goal.returns-clause-refused
unfolding row_on
returns-clause-refused c =
    told_err c.put_after.result (row_on c.args.before.now c.args.line.now)
    (c.put_after.ensures ∙ ap (put_after c.args.before.now) (c.read_row.ensures ∙ ap row_in (ap texts c.deref.ensures.value ∙ c.in_ok-parts.ensures)))
