-- The comma stands before the reading.
use Rattle.std.proofs.Common.{codes}
use Rattle.std.proofs.lemmas.Result.{on_ok_weaker}
use Rattle.logger_files.specs.Requests.{reading_text}
use Rattle.logger_files.proofs.ChunkLemmas.{joined}
use Rattle.logger_files.proofs.requests.write_further.Goals as goal

pub returns : goal.returns
returns c =
    on_ok_weaker c.write_reading.result
    (joined c.args.out.now c.push.new.self c.write_reading.new.out (codes ",") (reading_text c.args.reading.now) c.in_ok-push.ensures.ok)
    c.write_reading.ensures
