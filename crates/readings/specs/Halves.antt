-- Readings lent in two slices.
use Rattle.std.specs.Prelude.{List, ◌++◌}
use Rattle.fixed_units.specs.declared.readings.Reading.{Reading}
use Rattle.readings.specs.declared.halves.Halves.{Halves}

-- the readings of both, in order
abbrev pub joined : Halves → List Reading
joined halves = halves.left.now ++ halves.right.now
