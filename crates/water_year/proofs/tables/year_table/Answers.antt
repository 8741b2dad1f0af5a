use Rattle.water_year.proofs.YearLemmas.{rows_few}
use Rattle.water_year.proofs.tables.year_table.Goals as goal

pub month_tables-requires-clause-few : goal.month_tables-requires-clause-few
month_tables-requires-clause-few c = rows_few c.args.year c.args.rows.now c.requires.year c.requires.rows

pub whole_table-requires-clause-few : goal.whole_table-requires-clause-few
whole_table-requires-clause-few c = rows_few c.args.year c.args.rows.now c.requires.year c.requires.rows
