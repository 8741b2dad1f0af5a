-- A copy begins, and goes on.
use Rattle.migration.proofs.CopyLemmas.{copies, not_begun}
use Rattle.migration.proofs.copying.copy_records.Goals as goal

pub returns-in-Ok-clause-copies : goal.returns-in-Ok-clause-copies
returns-in-Ok-clause-copies g c =
    copies g.D.Disk g.met.D.Disk.counts_now c.args.records.now c.args.disk c.begin.new.disk c.copy_behind.result.1 (tt {0}) c.copy_behind.result.0
    c.in-Ok.ensures.begins c.copy_behind.ensures.goes_on

pub returns-in-Err-clause-copies : goal.returns-in-Err-clause-copies
returns-in-Err-clause-copies g c = not_begun g.D.Disk (Unit {0}) (Unit {0}) c.args.records.now c.args.disk c.begin.new.disk c.in-Err.fault c.in-Err.ensures.begins
