-- What is left to read makes up what the text is read as.
use Rattle.std.proofs.Common.{◌<◌}
use Rattle.midsection.specs.Reading.{records_of}
use Rattle.midsection.proofs.StepLemmas.{Stands}
use Rattle.midsection.proofs.reading.read_verticals.Given as goal

abbrev pub invariant-loop-row : goal.invariant-loop-row
invariant-loop-row l = (0 < l.row-iterator.left) × Stands (records_of l.fn.text) l.row-iterator.rdr l.read.count l.read.before l.read.kept.items
