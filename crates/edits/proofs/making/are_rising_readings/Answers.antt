-- Neighbour by neighbour.
use Rattle.std.proofs.Common.{rules, tests, arith, subst, ◌∙◌}
use Rattle.std.proofs.lemmas.List.{get_or_default}
use Rattle.std.proofs.lemmas.List.Sorted.{answers_always}
use Rattle.readings.specs.Readings.{instant_of}
use Rattle.edits.specs.Lawful.{IsPutReading}
use Rattle.edits.proofs.ReadingLemmas.{follows, follows_told}
use Rattle.edits.proofs.TestLemmas.{rising_told}
use Rattle.edits.proofs.making.are_rising_readings.Goals as goal

pub returns-then-is_put_reading : goal.returns-then-is_put_reading
returns-then-is_put_reading c =
    rising_told instant_of IsPutReading follows follows_told c.args.readings.now c.is_sorted_by.result c.requires
    (λ d. subst IsPutReading (c.index-readings-0.is ∙ get_or_default c.args.readings.now 0 _ d (omega (arith, c.requires))) (c.is_put_reading.ensures.range.0 c.if-is_put_reading.true))
    (c.is_sorted_by.ensures.cases follows (answers_always _ _ _ (λ f a r g k. search (rules, tests))))
