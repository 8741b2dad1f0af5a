use Rattle.std.proofs.Common.{subst, sym}
use Rattle.office.specs.Offices.{Officed}
use Rattle.shared_office.specs.Passages.{Passes}
use Rattle.shared_office.proofs.StretchLemmas.{passes_none}
use Rattle.shared_office.proofs.shared.Shared.new.Goals as goal

pub invariant_of-result-clause-passed : goal.invariant_of-result-clause-passed
invariant_of-result-clause-passed g c =
    let only = g.met.D.Disk.only_now in
    let now = c.args.office in
    subst (λ (o : Officed g.row.D.Denot). ∥ Passes g.D.Disk o.register.history now.register.history o.disk now.disk ∥₁) (sym c.of-begun.ensures)
    ∣ passes_none g.D.Disk now.register.history now.disk (only now.disk) c.an_office_stands_on_its_disk.ensures.images ∣₁
