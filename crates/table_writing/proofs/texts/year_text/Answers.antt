use Rattle.table_writing.proofs.YearLemmas.{settled_rows}
use Rattle.table_writing.proofs.texts.year_text.Goals as goal

pub table_text-requires-clause-rows : goal.table_text-requires-clause-rows
table_text-requires-clause-rows c =
    record { days = c.requires.days; settled = settled_rows c.args.rows.now (rw c.in-None.is at c.first_pending.ensures) c.requires.counted }
