use Rattle.std.proofs.Common.{◌∙◌}
use Rattle.edit_bodies.proofs.ReadingLemmas.{first_rises, rising_pushed}
use Rattle.edit_bodies.proofs.reading_rows.is_later.Goals as goal

pub returns-in-Some : goal.returns-in-Some
returns-in-Some c = c.is_earlier.ensures ∙ rising_pushed c.args.readings.now c.in-Some.last.now c.args.reading.now c.requires c.in-Some.ensures.value

pub returns-in-None : goal.returns-in-None
returns-in-None c = first_rises c.args.readings.now c.args.reading.now c.in-None.ensures.value
