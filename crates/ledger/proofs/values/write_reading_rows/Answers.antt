-- The first reading stands before the others.
use Rattle.std.proofs.Common.{arith}
use Rattle.std.proofs.lemmas.Result.{on_ok_weaker}
use Rattle.ledger.specs.Figures.{reading_row, row_text}
use Rattle.ledger.proofs.RowLemmas.{no_rows, rows_joined}
use Rattle.ledger.proofs.values.write_reading_rows.Goals as goal

pub returns-in_default : goal.returns-in_default
returns-in_default c = no_rows reading_row row_text c.args.out.now c.args.readings.now (omega (arith, c.in_default.len_below))

pub returns : goal.returns
returns c =
    on_ok_weaker c.write_further_readings.result
    (rows_joined reading_row row_text c.args.out.now c.write_reading.new.out c.write_further_readings.new.out c.args.readings.now c.first-item.result c.in-len1-up.len_at_least c.first-item.is c.in_ok-write_reading.ensures)
    c.write_further_readings.ensures
