use Rattle.fixed_units.proofs.TextLemmas.{written-read, micro-read}
use Rattle.fixed_units.proofs.published.written_values_are_read.Goals as goal

pub returns-clause-values : goal.returns-clause-values
returns-clause-values c = written-read

pub returns-clause-quantities : goal.returns-clause-quantities
returns-clause-quantities c = micro-read
