-- The journal is opened, and the copy goes on over it.
use Rattle.migration.proofs.GoLemmas.{only_reads, opened_goes_on, refused_cause, refused_goes_on}
use Rattle.migration.proofs.copying.copy_behind.Goals as goal

pub returns-in-Ok-clause-goes_on : goal.returns-in-Ok-clause-goes_on
returns-in-Ok-clause-goes_on g c =
    let opened = c.in-Ok.ensures in
    let reads = only_reads g.D.Disk g.met.D.Disk.counts_now c.args.disk c.in-Ok.opening.ahead.disk opened.same opened.any_moment opened.counted in
    opened_goes_on g.D.Disk c.args.records.now c.go_on.result.0 c.args.disk c.in-Ok.opening.ahead.disk c.go_on.result.1 reads
    (c.go_on.ensures.goes_on opened.durable)

pub returns-in-Err-clause-goes_on : goal.returns-in-Err-clause-goes_on
returns-in-Err-clause-goes_on g c =
    let refused = c.in-Err.ensures in
    refused_goes_on g.D.Disk (Unit {0}) c.args.records.now c.args.disk c.in-Err.refused.disk c.in-Err.refused.fault _ _ refused.refused
    (only_reads g.D.Disk g.met.D.Disk.counts_now c.args.disk c.in-Err.refused.disk refused.refused_same refused.refused_any_moment refused.refused_counted)

pub returns-in-Err-clause-cause : goal.returns-in-Err-clause-cause
returns-in-Err-clause-cause g c = refused_cause g.D.Disk (Unit {0}) _ _ _ _ c.in-Err.ensures.refused
