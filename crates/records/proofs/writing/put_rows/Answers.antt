use Rattle.std.proofs.Common.{◌++◌, ℤ, ap, ◌∙◌}
use Rattle.records.proofs.WritingLemmas.{put_more}
use Rattle.records.proofs.writing.put_rows.Goals as goal
use Rattle.records.specs.Payloads.{point_bytes}

pub loop-row-preserved : goal.loop-row-preserved
loop-row-preserved c =
    let added = c.in_ok-put_point.ensures ∙ ap (λ (x : ℤ × ℤ). c.loop-row.out.items ++ point_bytes x) c.row-item.is in
    put_more point_bytes _ _ _ c.args.rows.now c.loop-row.row-index c.row-item.result c.loop-row-test.true added c.loop-row.invariant
