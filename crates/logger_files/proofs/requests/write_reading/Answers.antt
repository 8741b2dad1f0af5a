-- The parts stand one behind another.
use Rattle.std.proofs.Common.{codes}
use Rattle.std.proofs.lemmas.Result.{on_ok_weaker}
use Rattle.civil_days.specs.Texts.{instant_text}
use Rattle.fixed_units.specs.PublishedText.{micro_text}
use Rattle.logger_files.proofs.ChunkLemmas.{five_joined}
use Rattle.logger_files.proofs.requests.write_reading.Goals as goal

pub returns : goal.returns
returns c =
    on_ok_weaker c.push_slice-3.result
    (five_joined c.args.out.now c.push_slice.new.self c.write_instant.new.out c.push_slice-2.new.self c.write_micro.new.out c.push_slice-3.new.self
    (codes "[\"") (instant_text c.args.reading.now.at) (codes "\",\"") (micro_text c.args.reading.now.raw) (codes "\"]")
    c.in_ok-push_slice.ensures.ok c.in_ok-write_instant.ensures.text c.in_ok-push_slice-2.ensures.ok c.in_ok-write_micro.ensures.ok)
    c.push_slice-3.ensures.ok
