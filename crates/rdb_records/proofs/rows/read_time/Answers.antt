-- The field is there.
use Rattle.rdb_records.proofs.TimeLemmas.{hours_is}
use Rattle.rdb_records.proofs.rows.read_time.Goals as goal

pub returns : goal.returns
returns c = rw c.in_ok-field.was (rw (hours_is c.args.hours c.requires.low c.requires.high) at c.read_stamp.ensures)
