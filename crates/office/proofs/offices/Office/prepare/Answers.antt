-- Nothing is asked of the disk.
use Rattle.std.proofs.Common.{IsSome, refl, subst}
use Rattle.journal.specs.Moments.{LeavesOnly}
use Rattle.office.specs.Offices.{Officed}
use Rattle.office.specs.Stops.{IsLeftBetween}
use Rattle.office.proofs.EditLemmas.{leaves_unasked}
use Rattle.office.proofs.offices.Office.prepare.Goals as goal

pub returns-in_err-bytes-clause-any_moment : goal.returns-in_err-bytes-clause-any_moment
returns-in_err-bytes-clause-any_moment g c =
    subst (λ (o : Officed g.row.D.Denot). IsSome (g.D.Disk.content o.disk) → LeavesOnly g.D.Disk o.disk o.disk (IsLeftBetween o.register.history o.register.history))
    c.self.view_is
    (leaves_unasked c.self.inside.register.history c.self.inside.doubt c.self.inside.journal c.self.invariant
    g.met.D.Disk.only_now c.self.inside.register.history refl)

pub returns-in_err-prepare-clause-any_moment : goal.returns-in_err-prepare-clause-any_moment
returns-in_err-prepare-clause-any_moment g c =
    subst (λ (o : Officed g.row.D.Denot). IsSome (g.D.Disk.content o.disk) → LeavesOnly g.D.Disk o.disk c.self.inside.journal.disk (IsLeftBetween o.register.history c.prepare.new.self.history))
    c.self.view_is
    (leaves_unasked c.self.inside.register.history c.self.inside.doubt c.self.inside.journal c.self.invariant
    g.met.D.Disk.only_now c.prepare.new.self.history c.prepare.ensures.history)

pub returns-clause-any_moment : goal.returns-clause-any_moment
returns-clause-any_moment g c =
    subst (λ (o : Officed g.row.D.Denot). IsSome (g.D.Disk.content o.disk) → LeavesOnly g.D.Disk o.disk c.self.inside.journal.disk (IsLeftBetween o.register.history c.prepare.new.self.history))
    c.self.view_is
    (leaves_unasked c.self.inside.register.history c.self.inside.doubt c.self.inside.journal c.self.invariant
    g.met.D.Disk.only_now c.prepare.new.self.history c.prepare.ensures.history)
