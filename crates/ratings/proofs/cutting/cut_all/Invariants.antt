-- The parts of the periods so far.
use Rattle.std.specs.Prelude.{◌≡◌, map, take}
use Rattle.ratings.specs.Parts.{part_of}
use Rattle.ratings.proofs.cutting.cut_all.Given as goal

abbrev pub invariant-loop-period : goal.invariant-loop-period
invariant-loop-period l = l.parts.items ≡ map (part_of l.lo l.hi l.tables.list) (take l.period-index l.periods)
