use Rattle.std.proofs.Common.{◌++◌, ℤ, ap, ◌∙◌}
use Rattle.records.proofs.WritingLemmas.{put_more}
use Rattle.records.proofs.writing.put_points.Goals as goal
use Rattle.records.specs.Payloads.{point_bytes}

pub loop-point-preserved : goal.loop-point-preserved
loop-point-preserved c =
    let added = c.in_ok-put_point.ensures ∙ ap (λ (x : ℤ × ℤ). c.loop-point.out.items ++ point_bytes x) c.point-item.is in
    put_more point_bytes _ _ _ c.args.points.now c.loop-point.point-index c.point-item.result c.loop-point-test.true added c.loop-point.invariant
