use Rattle.std.proofs.Common.{◌∙◌, ap, subst}
use Rattle.commands.proofs.SharingLemmas.{history_is}
use Rattle.commands.proofs.sharing.take_back.Goals as goal
use Rattle.office.specs.Offices.{Officed}
use Rattle.shared_office.proofs.TaskLemmas.{begun_alone, fixed_alone}
use Rattle.shared_office.specs.Passages.{Passes}
use Rattle.shared_office.specs.Passing.{fixed_in}
use Rattle.turnstile.specs.Passes.{seen}

pub returns-clause-history : goal.returns-clause-history
returns-clause-history g c =
    ap (λ (o : Officed g.row.D.Denot). o.register.history) c.into_office.ensures.office
    ∙ history_is c.close.result.office.register.history c.close.result.ending (fixed_in c.args.lock.now) (seen c.args.pass)
    c.close.ensures.history (fixed_alone c.close.result c.args.lock.now c.close.ensures.fixed)

pub returns-clause-passed : goal.returns-clause-passed
returns-clause-passed g c =
    let last = c.into_office.result in
    subst (λ (o : Officed g.row.D.Denot). ∥ Passes g.D.Disk o.register.history last.register.history o.disk last.disk ∥₁)
    (begun_alone c.close.result c.args.lock.now c.close.ensures.fixed) c.into_office.ensures.passed
