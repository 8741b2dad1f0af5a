-- The limits that the records were accepted under are those that were given.
use Rattle.std.specs.Prelude.{◌≡◌, Err}
use Rattle.std.proofs.Common.{rules, ap, subst}
use Rattle.history.specs.Events.{History}
use Rattle.office.specs.Replaying.{IsReadFault}
use Rattle.office_inputs.specs.declared.limits.Limits.{Limits}
use Rattle.office.proofs.ReplayLemmas.{all_of_limits}
use Rattle.office.proofs.opening.replay.Goals as goal

pub returns-clause-all : goal.returns-clause-all
returns-clause-all g c =
    let read = c.in_ok-read_all.ensures.all in
    (read.0, all_of_limits _ _ read.0 _ _ (ap (λ (h : History). h.limits) c.new-register.ensures.history) read.1)

pub returns-in_err-read_all-clause-refused : goal.returns-in_err-read_all-clause-refused
returns-in_err-read_all-clause-refused g c =
    let limits : c.new-register.result.history.limits ≡ c.args.limits = ap (λ (h : History). h.limits) c.new-register.ensures.history in
    let told = subst (λ (l : Limits). IsReadFault (g.D.Disk.content c.read_all.new.opening.ahead.disk) l c.in_err-read_all.field-0.0
    (g.D.Disk.faults c.args.opening.now.ahead.disk) (g.D.Disk.faults c.read_all.new.opening.ahead.disk)) limits c.in_err-read_all.ensures.refused in
    let same : c.from_residual.result ≡ Err c.in_err-read_all.field-0.0 = search rules in
    rw same told
