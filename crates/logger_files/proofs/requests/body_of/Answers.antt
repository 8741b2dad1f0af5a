-- The parts stand one behind another.
use Rattle.std.proofs.Common.{codes, decimal}
use Rattle.logger_files.specs.Requests.{content_digest}
use Rattle.logger_files.proofs.ChunkLemmas.{nine_joined}
use Rattle.logger_files.proofs.requests.body_of.Goals as goal

pub returns : goal.returns
returns c =
    let start = c.new-body.ensures in
    rw start at (nine_joined c.new-body.result c.push_slice.new.self c.push_slice-2.new.self c.push_slice-3.new.self c.push_number.new.self c.push_slice-4.new.self c.push_slice-5.new.self c.push_slice-6.new.self c.push_slice-7.new.self c.push.new.self
    (codes "{\"kind\":\"PutReadings\",\"by\":\"") c.args.by.now (codes "\",\"ref\":\"bring-") (decimal (content_digest c.args.by.now c.args.site.now c.args.array.now)) (codes "\",\"site\":\"") c.args.site.now (codes "\",\"readings\":") c.args.array.now (codes "}")
    c.in_ok-push_slice.ensures.ok c.in_ok-push_slice-2.ensures.ok c.in_ok-push_slice-3.ensures.ok (rw c.content_digest.ensures at c.in_ok-push_number.ensures.ok) c.in_ok-push_slice-4.ensures.ok c.in_ok-push_slice-5.ensures.ok c.in_ok-push_slice-6.ensures.ok c.in_ok-push_slice-7.ensures.ok c.in_ok-push.ensures.ok)
