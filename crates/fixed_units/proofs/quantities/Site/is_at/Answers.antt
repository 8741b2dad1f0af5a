use Rattle.std.proofs.Common.{sym}
use Rattle.fixed_units.proofs.SiteLemmas.{apart}
use Rattle.fixed_units.proofs.quantities.Site.is_at.Goals as goal

-- src/quantities.rt:214:5
pub returns-else-self-other-clause-place : goal.returns-else-self-other-clause-place
returns-else-self-other-clause-place c =
    rw (sym c.self.view_is, sym c.other.view_is) (apart (record { digits = c.self.inside.digits; value = c.self.inside.value }) (record { digits = c.other.inside.digits; value = c.other.inside.value }) c.self.invariant c.other.invariant c.if-self-other.false)
