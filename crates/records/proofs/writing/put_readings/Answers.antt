use Rattle.std.proofs.Common.{◌++◌, ap, ◌∙◌}
use Rattle.fixed_units.specs.declared.readings.Reading.{Reading}
use Rattle.records.proofs.WritingLemmas.{put_more}
use Rattle.records.proofs.writing.put_readings.Goals as goal
use Rattle.records.specs.Payloads.{reading_bytes}

pub loop-reading-preserved : goal.loop-reading-preserved
loop-reading-preserved c =
    let added = c.in_ok-put_reading.ensures ∙ ap (λ (x : Reading). c.loop-reading.out.items ++ reading_bytes x) c.reading-item.is in
    put_more reading_bytes _ _ _ c.args.readings.now c.loop-reading.reading-index c.reading-item.result c.loop-reading-test.true added c.loop-reading.invariant
