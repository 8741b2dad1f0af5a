-- What is counted and the readings that are left make up the whole.
use Rattle.std.proofs.Common.{drop}
use Rattle.std.specs.Prelude.{map}
use Rattle.daily_values.specs.DayValue.{unit_of, units_of}
use Rattle.daily_values.proofs.CountLemmas.{AreCountsOfRest}
use Rattle.daily_values.proofs.from_scratch.count_units.Given as goal

abbrev pub invariant-loop-reading : goal.invariant-loop-reading
invariant-loop-reading l = AreCountsOfRest l.parts (map (unit_of l.parts) (drop l.reading-index l.parts.window)) (units_of l.parts) l.counts
