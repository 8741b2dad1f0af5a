-- A turn adds one reading.
use Rattle.std.proofs.Common.{◌++◌, ap, ◌∙◌}
use Rattle.fixed_units.specs.declared.readings.Reading.{Reading}
use Rattle.logger_files.specs.Requests.{further_text}
use Rattle.logger_files.proofs.ChunkLemmas.{put_more}
use Rattle.logger_files.proofs.requests.write_others.Goals as goal

pub loop-reading-preserved : goal.loop-reading-preserved
loop-reading-preserved c =
    let added = c.in_ok-write_further.ensures ∙ ap (λ (x : Reading). c.loop-reading.out ++ further_text x) c.reading-item.is in
    put_more c.loop-reading.out c.args.out.now c.write_further.new.out c.args.readings.now c.loop-reading.reading-index c.reading-item.result c.loop-reading-test.true added c.loop-reading.invariant
