use Rattle.reading_loading.proofs.PutLemmas.{full_put, same_puts, whole_puts}
use Rattle.reading_loading.proofs.laws.puts_are_the_readings.Goals as goal

pub returns-clause-whole : goal.returns-clause-whole
returns-clause-whole c order readings edits puts = whole_puts order readings edits puts

pub returns-clause-full : goal.returns-clause-full
returns-clause-full c order readings edits place edit puts more is = full_put order readings edits place edit puts more is

pub returns-clause-one : goal.returns-clause-one
returns-clause-one c order readings edits others first second = same_puts order readings edits others first second
