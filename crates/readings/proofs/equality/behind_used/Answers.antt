-- The next used reading stands elsewhere.
use Rattle.readings.proofs.EqualityLemmas.{other_next}
use Rattle.std.proofs.Common.{◌∙◌, sym}
use Rattle.readings.proofs.equality.behind_used.Goals as goal

pub returns-in_default-clause-other : goal.returns-in_default-clause-other
returns-in_default-clause-other c =
    other_next c.args.readings.now c.args.list.now c.loop-reading.rest.now c.loop-reading.reading-index c.reading-item.result
    c.loop-reading-test.true c.reading-item.is (sym c.is_usable.ensures ∙ c.if-is_usable.true) c.loop-reading.invariant c.in_default.ensures.other
