use Rattle.std.proofs.Common.{sym}
use Rattle.fixed_units.proofs.SiteLemmas.{fewer, more}
use Rattle.fixed_units.proofs.quantities.Site.is_before.Goals as goal

-- src/quantities.rt:206:5
pub returns-then-self-other-clause-place : goal.returns-then-self-other-clause-place
returns-then-self-other-clause-place c =
    rw (sym c.self.view_is, sym c.other.view_is) (fewer (record { digits = c.self.inside.digits; value = c.self.inside.value }) (record { digits = c.other.inside.digits; value = c.other.inside.value }) c.self.invariant c.other.invariant c.if-self-other.true)

-- src/quantities.rt:206:5
pub returns-else-self-other-2-clause-place : goal.returns-else-self-other-2-clause-place
returns-else-self-other-2-clause-place c =
    rw (sym c.self.view_is, sym c.other.view_is) (more (record { digits = c.self.inside.digits; value = c.self.inside.value }) (record { digits = c.other.inside.digits; value = c.other.inside.value }) c.self.invariant c.other.invariant c.if-self-other.false c.if-self-other-2.false)
