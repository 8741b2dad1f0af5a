-- The readings from the one instant on, and of them those up to the other.
use Rattle.std.specs.Prelude.{int_le}
use Rattle.std.proofs.Common.{◌∙◌, ap, sym, subst}
use Rattle.rising.specs.Lists.{up_to}
use Rattle.rising.proofs.Placing.{filter_rises}
use Rattle.rising.proofs.Selecting.{filter_both}
use Rattle.readings.specs.Halves.{joined}
use Rattle.readings.specs.Readings.{IsRising, instant_of}
use Rattle.readings.proofs.halves.Halves.span.Goals as goal

pub count_to-requires : goal.count_to-requires
count_to-requires c =
    subst IsRising (sym c.split_at_key.ensures.from) (filter_rises instant_of (λ r. int_le c.args.from r.at) (joined c.args.self.now) c.requires)

pub returns : goal.returns
returns c =
    c.split_at.ensures.front ∙ c.count_to.ensures.front ∙ ap (up_to instant_of c.args.to) c.split_at_key.ensures.from
    ∙ filter_both (λ r. int_le c.args.from r.at) (λ r. int_le r.at c.args.to) (joined c.args.self.now)
