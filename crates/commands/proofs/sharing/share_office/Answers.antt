use Rattle.std.proofs.Common.{◌∙◌, ap, subst}
use Rattle.commands.proofs.SharingLemmas.{closed_alone}
use Rattle.commands.proofs.sharing.share_office.Goals as goal
use Rattle.office.specs.Offices.{Officed}
use Rattle.shared_office.proofs.TaskLemmas.{begun_alone, fixed_alone}
use Rattle.shared_office.specs.Passages.{Passes}
use Rattle.shared_office.specs.Passing.{Lock, begun_in, fixed_of}
use Rattle.shared_office.specs.declared.shared.Shared.{Shared}
use Rattle.turnstile.specs.Passes.{first_value}

-- there was no memory to share the lock
pub returns-in-Err-new-2-clause-back : goal.returns-in-Err-new-2-clause-back
returns-in-Err-new-2-clause-back g c =
    ap (λ (o : Officed g.row.D.Denot). o.register.history) c.into_office-in-Err-new-2.ensures.office
    ∙ closed_alone c.in-Ok.shared c.close.result c.in-Ok.ensures.shared.1 (c.close.ensures.history ∙ c.in-Ok-new.ensures.seen)
    (fixed_alone c.close.result c.in-Err-new-2.refused.value c.close.ensures.fixed ∙ ap (λ (t : Lock g.row.D.Denot g.D.Disk). fixed_of (first_value t)) c.in-Err-new-2.ensures.value_returned
    ∙ ap (λ (s : Shared g.row.D.Denot g.D.Disk). fixed_of s) c.in-Ok-new.ensures.made)
    ∙ ap (λ (o : Officed g.row.D.Denot). o.register.history) c.in-Ok.ensures.shared.0

pub returns-in-Err-new-2-clause-passed : goal.returns-in-Err-new-2-clause-passed
returns-in-Err-new-2-clause-passed g c =
    let last = c.into_office-in-Err-new-2.result in
    subst (λ (o : Officed g.row.D.Denot). ∥ Passes g.D.Disk o.register.history last.register.history o.disk last.disk ∥₁)
    (begun_alone c.close.result c.in-Err-new-2.refused.value c.close.ensures.fixed ∙ ap (λ (t : Lock g.row.D.Denot g.D.Disk). begun_in t) c.in-Err-new-2.ensures.value_returned
    ∙ ap (λ (s : Shared g.row.D.Denot g.D.Disk). s.begun.value) c.in-Ok-new.ensures.made ∙ c.in-Ok.ensures.shared.2)
    c.into_office-in-Err-new-2.ensures.passed
