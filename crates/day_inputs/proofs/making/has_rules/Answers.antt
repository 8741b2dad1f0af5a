-- Without a window no entry, no period and no least cover counts.
use Rattle.std.specs.Prelude.{Option, ℤ}
use Rattle.std.proofs.Common.{ap, sym, ◌∙◌}
use Rattle.curves.specs.Corrections.{entries_of}
use Rattle.day_inputs.specs.DayInputs.{window_ends}
use Rattle.day_inputs.specs.Equality.{has_rules_on}
use Rattle.day_inputs.proofs.making.has_rules.Goals as goal

pub returns-in-None : goal.returns-in-None
returns-in-None c =
    c.has_no_rules.ensures (entries_of c.args.corrections.now) c.args.shifts.now.series.entries c.args.ratings.now.ratings c.args.least
    ∙ ap (λ (span : Option (ℤ × ℤ)). has_rules_on (entries_of c.args.corrections.now) c.args.shifts.now.series.entries c.args.ratings.now.ratings c.args.least c.args.parts.now span)
    (sym c.in-None.is ∙ c.ends.ensures ∙ ap window_ends c.as_slice.ensures)
