-- The parts tell.
use Rattle.day_inputs.proofs.EqualityLemmas.{told_inputs}
use Rattle.day_inputs.specs.declared.day_inputs.DayInputs.TheVariants.{Day}
use Rattle.day_inputs.proofs.equality.are_same.Goals as goal

pub returns-in-Day-Day-clause-equal : goal.returns-in-Day-Day-clause-equal
returns-in-Day-Day-clause-equal c =
    rw (c.in-Day-Day.is-0, c.in-Day-Day.is-1)
    (told_inputs (Day c.in-Day-Day.parts) (Day c.in-Day-Day.others) c.are_same_parts.result c.are_same_parts.ensures)
