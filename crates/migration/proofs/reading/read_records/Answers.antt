-- The journal is opened, and its records are read behind one another.
use Rattle.std.proofs.Common.{ℕ, List, Option, IfSome, ◌∙◌, subst, arith}
use Rattle.journal.specs.Moments.{IsContent}
use Rattle.migration.specs.Reading.{StandsForAll}
use Rattle.migration.proofs.ReadLemmas.{ended_stands_for_all, if_err, if_ok, reads_behind, refused_unread, synced_behind, unread_at}
use Rattle.migration.proofs.reading.read_records.Goals as goal

pub returns-in-Ok-clause-read : goal.returns-in-Ok-clause-read
returns-in-Ok-clause-read g c =
    let read = c.read_all-read in
    if_ok read.result _ _ read.ensures.all (λ records ended.
    subst (λ (o : Option (List ℕ)). IfSome o (StandsForAll records.items)) (read.ensures.disk.same ∙ c.in-Ok.ensures.same)
    (ended_stands_for_all records.items read.new.opening ended))

pub returns-in-Ok-clause-synced : goal.returns-in-Ok-clause-synced
returns-in-Ok-clause-synced g c =
    let read = c.read_all-read in
    rw c.give_up.ensures
    (if_ok read.result _ _ read.ensures.all (λ records ended.
    synced_behind g.D.Disk c.args.disk c.in-Ok.opening.ahead.disk read.new.opening.ahead.disk (IsContent (g.D.Disk.content c.args.disk))
    g.met.D.Disk.counts_now c.in-Ok.ensures.synced read.ensures.disk))

pub returns-in-Ok-clause-refused : goal.returns-in-Ok-clause-refused
returns-in-Ok-clause-refused g c =
    let read = c.read_all-read in
    rw c.give_up.ensures
    (if_err read.result _ _ read.ensures.refused (λ fault is.
    unread_at _ (g.D.Disk.content c.args.disk) fault _ (g.D.Disk.faults c.args.disk) _ (read.ensures.disk.same ∙ c.in-Ok.ensures.same) c.in-Ok.ensures.done is))

pub returns-in-Ok-clause-same : goal.returns-in-Ok-clause-same
returns-in-Ok-clause-same g c = rw c.give_up.ensures (c.read_all-read.ensures.disk.same ∙ c.in-Ok.ensures.same)

pub returns-in-Ok-clause-any_moment : goal.returns-in-Ok-clause-any_moment
returns-in-Ok-clause-any_moment g c =
    let read = c.read_all-read in
    rw c.give_up.ensures
    (reads_behind g.D.Disk c.args.disk c.in-Ok.opening.ahead.disk read.new.opening.ahead.disk (g.D.Disk.may_leave c.args.disk)
    g.met.D.Disk.counts_now c.in-Ok.ensures.any_moment read.ensures.disk)

pub returns-in-Ok-clause-counted : goal.returns-in-Ok-clause-counted
returns-in-Ok-clause-counted g c =
    let first = c.in-Ok.ensures.counted in
    let second = c.read_all-read.ensures.disk.counted in
    rw c.give_up.ensures (omega (arith, first, second))

pub returns-in-Err-clause-refused : goal.returns-in-Err-clause-refused
returns-in-Err-clause-refused g c = refused_unread _ _ _ _ c.in-Err.ensures.refused
