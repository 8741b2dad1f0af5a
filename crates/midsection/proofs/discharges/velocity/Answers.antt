-- The velocity is a mean of velocities in range.
use Rattle.std.proofs.Common.{◌∙◌, ap, subst, sym, Option, pos}
use Rattle.std.specs.Prelude.{unwrap_or}
use Rattle.midsection.specs.Fractions.{whole}
use Rattle.midsection.specs.Verticals.{IsMean}
use Rattle.midsection.specs.declared.fractions.Fraction.{Fraction}
use Rattle.midsection.proofs.DischargeLemmas.{velocity_range}
use Rattle.midsection.proofs.discharges.velocity.Goals as goal

pub returns-clause-range : goal.returns-clause-range
returns-clause-range c =
    subst IsMean (sym (c.unwrap_or.ensures ∙ ap (λ (o : Option Fraction). unwrap_or o (whole (pos 0))) c.velocity.ensures))
    (velocity_range c.args.vertical.now c.requires)
