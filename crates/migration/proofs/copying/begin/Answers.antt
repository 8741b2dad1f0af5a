-- The disk is synced, and a journal made where one may be.
use Rattle.journal.proofs.Moments.{one_call, stepped}
use Rattle.journal.proofs.OnlyReading.{reads_once}
use Rattle.migration.proofs.CopyLemmas.{IsSynced, begins, begun_cause, failed_begins, failed_cause}
use Rattle.migration.proofs.copying.begin.Goals as goal

pub returns-in_err-sync-clause-begins : goal.returns-in_err-sync-clause-begins
returns-in_err-sync-clause-begins g c =
    let laws = g.met.D.Disk in
    failed_begins g.D.Disk c.args.disk.now c.sync.new.self c.from_residual.result c.from_residual.ensures.1
    (reads_once g.D.Disk c.args.disk.now c.sync.new.self (laws.only_now c.args.disk.now) c.sync.ensures.same c.sync.ensures.images c.sync.ensures.time c.sync.ensures.counted)

pub returns-in_err-sync-clause-cause : goal.returns-in_err-sync-clause-cause
returns-in_err-sync-clause-cause g c =
    failed_cause c.from_residual.result (g.D.Disk.faults c.args.disk.now) (g.D.Disk.faults c.sync.new.self) c.from_residual.ensures.1 c.in_err-sync.ensures.cause

pub returns-clause-cause : goal.returns-clause-cause
returns-clause-cause g c =
    rw c.begun.ensures
    (begun_cause c.init.result (g.D.Disk.faults c.args.disk.now) (g.D.Disk.faults c.sync.new.self) (g.D.Disk.faults c.init.new.disk)
    c.in_ok-sync.ensures.done c.init.ensures.done c.init.ensures.cause)

pub returns-clause-begins : goal.returns-clause-begins
returns-clause-begins g c =
    let laws = g.met.D.Disk in
    let old = c.args.disk.now in
    let mid = c.sync.new.self in
    let synced : IsSynced g.D.Disk old mid = record {
      same = c.sync.ensures.same;
      images = c.sync.ensures.images;
      before = stepped g.D.Disk old mid (g.D.Disk.may_leave old) _ (laws.only_now old) c.sync.ensures.time c.sync.ensures.images;
      first = one_call (g.D.Disk.content old) _ _ _ c.in_ok-sync.ensures.listed;
      counted = c.sync.ensures.counted;
      durable = c.in_ok-sync.ensures.durable;
    } in
    rw c.begun.ensures
    (begins g.D.Disk old mid c.init.new.disk c.init.result synced c.init.ensures.answer c.init.ensures.left c.init.ensures.any_moment c.init.ensures.counted)
