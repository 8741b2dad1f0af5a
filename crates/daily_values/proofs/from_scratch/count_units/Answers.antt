-- No more readings are counted than the day has.
use Rattle.std.proofs.Common.{drop, length, ap, arith}
use Rattle.std.specs.Prelude.{map}
use Rattle.daily_values.specs.DayValue.{unit_of}
use Rattle.daily_values.proofs.CountLemmas.{counts-few, counts-whole}
use Rattle.daily_values.proofs.from_scratch.count_units.Goals as goal

pub add_unit-counts-requires-clause-readings : goal.add_unit-counts-requires-clause-readings
add_unit-counts-requires-clause-readings c =
    (counts-few c.args.parts.now c.requires (map (unit_of c.args.parts.now) (drop c.loop-reading.reading-index c.args.parts.now.window)) c.loop-reading.counts c.loop-reading.invariant).readings

pub add_unit-counts-requires-clause-affected : goal.add_unit-counts-requires-clause-affected
add_unit-counts-requires-clause-affected c =
    (counts-few c.args.parts.now c.requires (map (unit_of c.args.parts.now) (drop c.loop-reading.reading-index c.args.parts.now.window)) c.loop-reading.counts c.loop-reading.invariant).affected

pub add_unit-counts-requires-clause-no_rating : goal.add_unit-counts-requires-clause-no_rating
add_unit-counts-requires-clause-no_rating c =
    (counts-few c.args.parts.now c.requires (map (unit_of c.args.parts.now) (drop c.loop-reading.reading-index c.args.parts.now.window)) c.loop-reading.counts c.loop-reading.invariant).no_rating

pub add_unit-counts-requires-clause-below : goal.add_unit-counts-requires-clause-below
add_unit-counts-requires-clause-below c =
    (counts-few c.args.parts.now c.requires (map (unit_of c.args.parts.now) (drop c.loop-reading.reading-index c.args.parts.now.window)) c.loop-reading.counts c.loop-reading.invariant).below

pub add_unit-counts-requires-clause-above : goal.add_unit-counts-requires-clause-above
add_unit-counts-requires-clause-above c =
    (counts-few c.args.parts.now c.requires (map (unit_of c.args.parts.now) (drop c.loop-reading.reading-index c.args.parts.now.window)) c.loop-reading.counts c.loop-reading.invariant).above

pub returns-clause-within : goal.returns-clause-within
returns-clause-within c =
    counts-whole c.args.parts.now c.requires c.args.parts.now.window c.loop-reading.reading-index c.loop-reading.counts
    (omega (arith, c.loop-reading-test.false, ap length c.as_slice-reading-items.ensures)) c.loop-reading.invariant
