-- The journal is opened, its edits are accepted again, and the office stands for them.
use Rattle.std.specs.Prelude.{ℕ, List, None, Option}
use Rattle.std.proofs.Common.{refl, subst, ◌∙◌}
use Rattle.devices.specs.Disks.{IsDurable}
use Rattle.journal.specs.Moments.{IsContent}
use Rattle.office.specs.Openings.{IsOpened}
use Rattle.office.proofs.ReplayLemmas.{durable_still, is_opened, opened_stands, reads_behind, synced_behind}
use Rattle.office.proofs.offices.Office.open.Goals as goal

pub over-requires : goal.over-requires
over-requires g c =
    let read = c.in-Ok.ensures in
    opened_stands c.args.limits c.args.limits read.all.0 c.in-Ok.register c.replay.new.opening None c.finish-journal.result refl read.all.1
    refl c.finish-journal.ensures.disk c.finish-journal.ensures.format c.finish-journal.ensures.gate c.finish-journal.ensures.limit c.finish-journal.ensures.in_doubt c.finish-journal.ensures.holds
    (durable_still _ _ _ _ c.replay.ensures.disk.same c.replay.ensures.disk.images c.in_ok-opening.ensures.durable)

pub returns-in-Ok-clause-opened : goal.returns-in-Ok-clause-opened
returns-in-Ok-clause-opened g c =
    let read = c.in-Ok.ensures in
    rw c.over.ensures.register
    (subst (λ (o : Option (List ℕ)). IsOpened o c.args.limits c.in-Ok.register) (c.replay.ensures.disk.same ∙ c.in_ok-opening.ensures.same)
    (is_opened c.args.limits read.all.0 c.in-Ok.register c.replay.new.opening read.all.1 read.legal))

pub returns-in-Ok-clause-durable : goal.returns-in-Ok-clause-durable
returns-in-Ok-clause-durable g c =
    rw (c.over.ensures.disk, c.finish-journal.ensures.disk)
    (subst (λ (o : Option (List ℕ)). IsDurable o (g.D.Disk.may_leave c.replay.new.opening.ahead.disk)) (c.replay.ensures.disk.same ∙ c.in_ok-opening.ensures.same)
    (durable_still _ _ _ _ c.replay.ensures.disk.same c.replay.ensures.disk.images c.in_ok-opening.ensures.durable))

pub returns-in-Ok-clause-synced : goal.returns-in-Ok-clause-synced
returns-in-Ok-clause-synced g c =
    rw (c.over.ensures.disk, c.finish-journal.ensures.disk)
    (synced_behind g.D.Disk c.args.disk c.in_ok-opening.opening.ahead.disk c.replay.new.opening.ahead.disk (IsContent (g.D.Disk.content c.args.disk))
    g.met.D.Disk.counts_now c.in_ok-opening.ensures.synced c.replay.ensures.disk)

pub returns-in-Ok-clause-any_moment : goal.returns-in-Ok-clause-any_moment
returns-in-Ok-clause-any_moment g c =
    rw (c.over.ensures.disk, c.finish-journal.ensures.disk)
    (reads_behind g.D.Disk c.args.disk c.in_ok-opening.opening.ahead.disk c.replay.new.opening.ahead.disk (g.D.Disk.may_leave c.args.disk)
    g.met.D.Disk.counts_now c.in_ok-opening.ensures.any_moment c.replay.ensures.disk)

pub returns-in-Err-clause-refused_any_moment : goal.returns-in-Err-clause-refused_any_moment
returns-in-Err-clause-refused_any_moment g c =
    rw c.give_up.ensures
    (reads_behind g.D.Disk c.args.disk c.in_ok-opening.opening.ahead.disk c.replay.new.opening.ahead.disk (g.D.Disk.may_leave c.args.disk)
    g.met.D.Disk.counts_now c.in_ok-opening.ensures.any_moment c.replay.ensures.disk)
