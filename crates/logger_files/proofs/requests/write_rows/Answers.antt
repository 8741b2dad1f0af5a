-- The first reading stands before the others.
use Rattle.std.proofs.Common.{arith}
use Rattle.std.proofs.lemmas.Result.{on_ok_weaker}
use Rattle.logger_files.proofs.ChunkLemmas.{no_rows, rows_joined}
use Rattle.logger_files.proofs.requests.write_rows.Goals as goal

pub returns-in_default : goal.returns-in_default
returns-in_default c = no_rows c.args.out.now c.args.readings.now (omega (arith, c.in_default.len_below))

pub returns : goal.returns
returns c =
    on_ok_weaker c.write_others.result
    (rows_joined c.args.out.now c.write_reading.new.out c.write_others.new.out c.args.readings.now c.first-item.result c.in-len1-up.len_at_least c.first-item.is c.in_ok-write_reading.ensures)
    c.write_others.ensures
